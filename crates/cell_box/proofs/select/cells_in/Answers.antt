use Rattle.std.proofs.Common.{Contains, subst}
use Rattle.mesh_base.specs.Place.{is_inside}
use Rattle.mesh_base.specs.Mesh.{is_vertex, place}
use Rattle.mesh_base.proofs.AnswerLaws.{and_left}
use Rattle.mesh_base.proofs.NumberLaws.{of_scan, to_numbers}
use Rattle.cell_box.proofs.select.cells_in.Goals as goal

pub cells_of-requires-clause-vertices : goal.cells_of-requires-clause-vertices
cells_of-requires-clause-vertices c v m =
    let mesh = c.args.step.now.mesh in
    let area = c.args.area.now in
    let s = of_scan mesh area v (c.in_ok-route.ensures.inside v (subst (λ l. Contains l v) c.items.ensures m)) in
    to_numbers mesh (is_vertex mesh.cells) v (and_left (is_vertex mesh.cells v) (is_inside area (place mesh v)) s.0) s.1
