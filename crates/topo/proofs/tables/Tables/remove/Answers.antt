use Rattle.std.proofs.Common.{◌≡◌, Some, None, set, ap, ◌∙◌, arith}
use Rattle.mesh_base.specs.Edit.{cell_at}
use Rattle.topo.specs.Cells.{listed}
use Rattle.topo.proofs.TopologyLaws.{AreTables-remove}
use Rattle.topo.proofs.tables.Tables.remove.Goals as goal

pub invariant_of-self-2 : goal.invariant_of-self-2
invariant_of-self-2 c =
    let cells = listed c.self.inside.cells in
    let at : cell_at cells c.args.i ≡ Some c.unwrap-removed.result = grind (arith, c.live_cell.ensures.cell, c.unwrap-removed.ensures, c.self.view_is) in
    let is = c.remove.ensures ∙ ap (λ l. set l c.args.i None) c.reserve.ensures.same in
    rw is
    (AreTables-remove c.self.inside.points cells _ _ _ _ c.self.invariant c.args.i
    (c.take_cell.ensures.cells cells c.args.i c.self.invariant.tally at)
    (c.take_cell-2.ensures.cells cells c.args.i c.self.invariant.pairs at)
    c.take_cell.ensures.points c.take_cell-2.ensures.points)
