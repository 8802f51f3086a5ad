-- the nearest of a list, with its distance
use Rattle.std.specs.Prelude.{◌≡◌, ℕ, List, Option, Some, None, nat_lt, if◌then◌else◌, IfSome}
use Rattle.std.specs.Option.{option_map}
use Rattle.mesh_base.specs.Place.{Area}
use Rattle.mesh_base.specs.Mesh.{MeshView}
use Rattle.mesh_base.specs.Query.{distance, nearest}
use Rattle.probe_walk.specs.declared.near.Near.{Near}

-- the first so far, or one with a greater number
abbrev pub better : Option Near → Near → Near
better None near = near
better (Some best) near = if nat_lt near.distance best.distance then near else best

-- its vertex is the nearest one, and its distance that of the vertex
pub record IsBest (mesh : MeshView) (area : Area) (vs : List ℕ) (best : Option Near) : Type 0 where
  pub vertex : option_map (λ (n : Near). n.vertex) best ≡ nearest mesh area vs
  pub distance : IfSome best (λ n. n.distance ≡ distance mesh area n.vertex)
