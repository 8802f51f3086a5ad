-- the scan: all vertices inside a box
use Rattle.std.specs.Prelude.{ℕ, Bool, ◌&&◌, List, filter}
use Rattle.mesh_base.specs.Place.{Area, is_inside}
use Rattle.mesh_base.specs.Mesh.{MeshView, is_vertex, numbers, place}

module _ (mesh : MeshView) (area : Area) where
  -- v is a vertex whose place is inside the box
  abbrev pub is_in : ℕ → Bool
  is_in v = is_vertex mesh.cells v && is_inside area (place mesh v)

  -- all vertices inside the box, ascending
  abbrev pub scan : List ℕ
  scan = filter is_in (numbers mesh)
