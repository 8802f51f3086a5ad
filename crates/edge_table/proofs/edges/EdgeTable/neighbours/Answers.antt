use Rattle.std.proofs.Common.{◌<◌, ap, subst, arith, length}
use Rattle.mesh_base.specs.Numbers.{IsListOf}
use Rattle.edge_table.specs.Pairs.{pair_count}
use Rattle.edge_table.proofs.PairLemmas.{neighbours_are}
use Rattle.edge_table.proofs.TableLemmas.{length_shown, row_at}
use Rattle.edge_table.proofs.edges.EdgeTable.neighbours.Goals as goal

pub returns-clause-listed : goal.returns-clause-listed
returns-clause-listed c =
    let rows = c.self.inside.rows.items in
    let lt : c.args.v < length rows = omega (arith, ap length c.self.view_is, length_shown rows, c.requires) in
    let l = row_at rows c.args.v c.index.result.now lt c.index.ensures c.self.invariant in
    rw c.as_slice.ensures (subst (λ t. IsListOf (λ w. 0 < pair_count t c.args.v w) c.index.result.now.near.items) c.self.view_is l)

pub returns-clause-cells : goal.returns-clause-cells
returns-clause-cells c cells pairs = neighbours_are cells c.args.self.now c.args.v c.as_slice.result.now pairs (returns-clause-listed c)
