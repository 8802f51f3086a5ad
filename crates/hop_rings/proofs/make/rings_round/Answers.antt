use Rattle.std.proofs.Common.{Contains, subst}
use Rattle.mesh_base.specs.Place.{is_inside}
use Rattle.mesh_base.specs.Mesh.{is_vertex, place}
use Rattle.mesh_base.proofs.AnswerLaws.{and_left}
use Rattle.mesh_base.proofs.NumberLaws.{of_scan, to_numbers}
use Rattle.hop_rings.proofs.make.rings_round.Goals as goal

pub rings-requires-clause-vertices : goal.rings-requires-clause-vertices
rings-requires-clause-vertices c v m =
    let mesh = c.args.step.now.mesh in
    let area = c.args.area.now in
    let s = of_scan mesh area v (c.in_ok-route.ensures.inside v (subst (λ l. Contains l v) c.items.ensures m)) in
    to_numbers mesh (is_vertex mesh.cells) v (and_left (is_vertex mesh.cells v) (is_inside area (place mesh v)) s.0) s.1

pub returns-clause-one : goal.returns-clause-one
returns-clause-one c = c.in_ok-rings.ensures.one
