use Rattle.std.proofs.Common.{arith}
use Rattle.edge_table.proofs.TableLemmas.{AreRows-set}
use Rattle.edge_table.proofs.CornerLemmas.{pairs-set}
use Rattle.edge_table.proofs.groups.count_pair.Goals as goal

pub returns-in_err-add_to-clause-rows : goal.returns-in_err-add_to-clause-rows
returns-in_err-add_to-clause-rows c = AreRows-set c.args.rows.now.items c.args.pair.0 c.add_to.new.row c.add_to.ensures.row c.requires.rows

pub returns-in_ok-add_to-clause-rows : goal.returns-in_ok-add_to-clause-rows
returns-in_ok-add_to-clause-rows c = AreRows-set c.args.rows.now.items c.args.pair.0 c.add_to.new.row c.add_to.ensures.row c.requires.rows

pub returns-in_ok-add_to-clause-pairs : goal.returns-in_ok-add_to-clause-pairs
returns-in_ok-add_to-clause-pairs c a u lt =
    pairs-set c.args.rows.now.items c.args.pair.0 c.args.pair.1 c.args.pair.2 a u c.add_to.new.row c.index_mut.result.now (omega arith) c.index_mut.ensures.value c.in_ok-add_to.ensures.numbers
