use Rattle.std.proofs.Common.{arith}
use Rattle.edge_table.proofs.TableLemmas.{pair_count-at, pair_count-set, pair_count-set_other, AreRows-set, HasRoomAt-set_other}
use Rattle.edge_table.proofs.table.split_at.Goals as goal

pub returns-clause-rows : goal.returns-clause-rows
returns-clause-rows c = AreRows-set c.args.rows.now.items c.args.v c.split_three.new.row c.split_three.ensures.row c.requires.rows

pub returns-clause-here : goal.returns-clause-here
returns-clause-here c u =
    let a = pair_count-set c.args.rows.now.items c.args.v u c.split_three.new.row (omega arith) in
    let b = pair_count-at c.args.rows.now.items c.args.v u c.index_mut.result.now (omega arith) c.index_mut.ensures.value in
    omega (arith, a, b, c.split_three.ensures.numbers u)

pub returns-clause-others : goal.returns-clause-others
returns-clause-others c w u n = pair_count-set_other c.args.rows.now.items c.args.v w u c.split_three.new.row n

pub returns-clause-keeps : goal.returns-clause-keeps
returns-clause-keeps c w n h = HasRoomAt-set_other 1 c.args.rows.now.items c.args.v w c.split_three.new.row n h
