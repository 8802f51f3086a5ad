-- the parts into which inside paths divide the scan of a box
use Rattle.std.specs.Prelude.{ℕ, zero, suc, ◌==◌, Bool, ◌&&◌, ◌||◌, List, [], ◌∷◌, length, filter, Contains, ◌⊎◌}
use Rattle.std.specs.List.{list_any}
use Rattle.mesh_base.specs.Numbers.{IsListOf}
use Rattle.mesh_base.specs.Place.{Area}
use Rattle.mesh_base.specs.Mesh.{MeshView, surface, numbers, are_neighbours}
use Rattle.mesh_base.specs.Scan.{is_in, scan}
use Rattle.mesh_base.specs.Paths.{Joined, JoinedToOne}

module _ (mesh : MeshView) (area : Area) where
  -- the list is the part of v: all vertices that are joined to it
  abbrev pub IsPart : ℕ → List ℕ → Type 0
  IsPart v vs = IsListOf (Joined mesh area v) vs

  -- each vertex inside is joined to one of the surface, or all of them are joined to each other
  abbrev pub IsCovered : Type 0
  IsCovered =
      ((v : ℕ) → Contains (scan mesh area) v → JoinedToOne mesh area (surface mesh) v)
      ⊎ ((v w : ℕ) → Contains (scan mesh area) v → Contains (scan mesh area) w → Joined mesh area v w)

  -- w is inside, and is in the list or has a neighbour in it
  abbrev pub is_reached : List ℕ → ℕ → Bool
  is_reached vs w =
      is_in mesh area w
      && (list_any (λ v. v == w) vs || list_any (λ v. are_neighbours mesh.cells v w) vs)

  -- all vertices that are reached from the list
  abbrev pub grown : List ℕ → List ℕ
  grown vs = filter (is_reached vs) (numbers mesh)

  -- the list after it has grown n times
  abbrev pub grown_by : ℕ → List ℕ → List ℕ
  grown_by zero vs = vs
  grown_by (suc n) vs = grown_by n (grown vs)

  -- all vertices that are joined to one of these: a list that grew as often as there are vertices inside grows no more
  abbrev pub joined_to : List ℕ → List ℕ
  joined_to seeds = grown_by (length (scan mesh area)) (grown seeds)

  -- the part of v, computed
  abbrev pub part : ℕ → List ℕ
  part v = joined_to (v ∷ [])
