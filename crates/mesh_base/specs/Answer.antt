-- the answer of a box, by its three cases
use Rattle.std.specs.Prelude.{◌≡◌, ℕ, ◌==◌, ◌-◌, List, [], length, filter, drop, if◌then◌else◌}
use Rattle.std.specs.Option.{option_map_or}
use Rattle.mesh_base.specs.Numbers.{IsListOf}
use Rattle.mesh_base.specs.Place.{Area}
use Rattle.mesh_base.specs.Mesh.{MeshView, surface}
use Rattle.mesh_base.specs.Scan.{is_in, scan}
use Rattle.mesh_base.specs.Paths.{JoinedToOne}
use Rattle.mesh_base.specs.Parts.{joined_to}
use Rattle.mesh_base.specs.Walk.{distance, start, walk}
use Rattle.mesh_base.specs.declared.answer.Route.{Route}
use Rattle.mesh_base.specs.declared.answer.Route.TheVariants.{Probe, Walk, Scan}

module _ (mesh : MeshView) (area : Area) where
  -- the surface vertices inside the box
  abbrev pub probed : List ℕ
  probed = filter (is_in mesh area) (surface mesh)

  -- the walk that an answer takes: none where a surface vertex is inside, or where there is no surface
  abbrev pub walked : List ℕ
  walked = if length probed == 0 then option_map_or (walk mesh area) (start mesh area) [] else []

  -- the last vertex of the walk, if it is inside
  abbrev pub arrived : List ℕ
  arrived = filter (λ v. distance mesh area v == 0) (drop (length walked - 1) walked)

  -- Probe where a surface vertex is inside, else Walk where the walk ends inside, else Scan
  abbrev pub route : Route
  route = if length probed == 0 then (if length arrived == 0 then Scan else Walk) else Probe

  -- what is joined to the surface vertices inside, what is joined to the walk's end, or the scan
  abbrev pub IsAnswerBy : Route → List ℕ → Type 0
  IsAnswerBy Probe vs = IsListOf (JoinedToOne mesh area probed) vs
  IsAnswerBy Walk vs = IsListOf (JoinedToOne mesh area arrived) vs
  IsAnswerBy Scan vs = vs ≡ scan mesh area

  -- the route is that of the box, and the list is the one that it gives
  abbrev pub IsAnswer : Route → List ℕ → Type 0
  IsAnswer r vs = (r ≡ route) × IsAnswerBy r vs

  -- the list of each route, computed
  abbrev pub answer_by : Route → List ℕ
  answer_by Probe = joined_to mesh area probed
  answer_by Walk = joined_to mesh area arrived
  answer_by Scan = scan mesh area

  -- the list of the answer, computed
  abbrev pub answer : List ℕ
  answer = answer_by route
