use Rattle.std.proofs.Common.{length, ap, sym, subst, arith}
use Rattle.mesh_base.specs.Mesh.{IsWithin}
use Rattle.topo.specs.Cells.{listed}
use Rattle.topo.proofs.TopologyLaws.{cell_at-push, AreTables-push}
use Rattle.topo.proofs.tables.Tables.push_cell.Goals as goal

pub take_cell-requires : goal.take_cell-requires
take_cell-requires c =
    let cells = listed c.self.inside.cells in
    record { there = (_, length cells, c.in_ok-put_cell.ensures.cells cells c.self.invariant.tally, cell_at-push cells c.args.cell) }

pub invariant_of-self-2 : goal.invariant_of-self-2
invariant_of-self-2 c =
    let cells = listed c.self.inside.cells in
    let n = c.self.inside.points in
    let few = ap (λ t. length t.cells) c.self.view_is in
    let within = subst (λ t. IsWithin t.points c.args.cell) (sym c.self.view_is) c.requires.within in
    rw (c.push_reserved.ensures, c.reserve.ensures.same)
    (AreTables-push n cells _ _ _ _ c.self.invariant c.args.cell (omega (arith, few, c.requires.few)) within c.corners-corners.ensures.different
    (c.in_ok-put_cell.ensures.cells cells c.self.invariant.tally)
    (c.in_default.ensures.cells cells c.self.invariant.pairs)
    c.put_cell.ensures.points c.put_cell-2.ensures.points)
