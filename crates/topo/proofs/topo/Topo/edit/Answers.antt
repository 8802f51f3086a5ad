use Rattle.std.proofs.Common.{◌≡◌, ap, sym, subst, ◌∙◌, length}
use Rattle.std.specs.Arc.{arc_value}
use Rattle.mesh_base.specs.Mesh.{AreWithin}
use Rattle.mesh_base.specs.Edit.{edited}
use Rattle.topo.specs.Topology.{IsTopologyOf}
use Rattle.topo.specs.Shapes.{AreKeptCells, AreKeptRows}
use Rattle.topo.proofs.ShapeLaws.{topology-is}
use Rattle.topo.proofs.topo.Topo.edit.Goals as goal

pub invariant_of-self-2 : goal.invariant_of-self-2
invariant_of-self-2 c =
    let mesh = c.requires.fits.0 in
    let fits = c.requires.fits.2 in
    let t = c.self.inside.tables in
    let kept = c.self.inside.kept in
    let is : IsTopologyOf mesh t = subst (IsTopologyOf mesh) (sym c.self.view_is) c.requires.fits.1 in
    let next = edited mesh c.args.edit.now in
    let after : IsTopologyOf next c.edit.new.self = c.in_ok-edit.ensures.edited mesh is in
    let points : length mesh.points ≡ c.points-points.result = is.0 ∙ sym c.points-points.ensures.points in
    let count : length mesh.cells ≡ length c.cells-cells.result.now = ap length (is.1 ∙ sym c.cells-cells.ensures.cells) in
    let within : AreWithin c.points-points.result mesh.cells =
    subst (λ n. AreWithin n mesh.cells) (sym c.points-points.ensures.points) (subst (AreWithin t.points) (sym is.1) c.cells-cells.ensures.topology.within) in
    let cells = c.forget_cells.ensures mesh count (subst (λ l. AreKeptCells arc_value l kept.cells.items) (sym is.1) c.self.invariant.1) in
    let rows = c.forget_rows.ensures mesh points within fits (c.touched-touched.ensures mesh is fits)
    (subst (λ u. AreKeptRows arc_value u kept.rows.items) (sym (topology-is mesh t is)) c.self.invariant.2) in
    (tt, subst (λ l. AreKeptCells arc_value l c.forget_cells.new.kept.items) after.1 cells, subst (λ u. AreKeptRows arc_value u c.forget_rows.new.kept.items) (topology-is next c.edit.new.self after) rows)
