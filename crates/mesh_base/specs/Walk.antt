-- the walk towards a box, from neighbour to nearer neighbour
use Rattle.std.specs.Prelude.{◌≡◌, ℕ, zero, suc, ◌==◌, Bool, ◌&&◌, ◌||◌, List, [], ◌∷◌, Option, Some, None, nat_lt, if◌then◌else◌, unwrap_or}
use Rattle.mesh_base.specs.Place.{Area, dist2}
use Rattle.mesh_base.specs.Mesh.{MeshView, surface, neighbours, place}

module _ (mesh : MeshView) (area : Area) where
  -- the squared distance of v from the box
  abbrev pub distance : ℕ → ℕ
  distance v = dist2 area (place mesh v)

  -- v comes before w by distance, and by number where the distances are equal
  abbrev pub is_nearer : ℕ → ℕ → Bool
  is_nearer v w = nat_lt (distance v) (distance w) || ((distance v == distance w) && nat_lt v w)

  -- the first of the list in this order
  abbrev pub nearest : List ℕ → Option ℕ
  nearest [] = None
  nearest (v ∷ vs) = Some (let w = unwrap_or (nearest vs) v in if is_nearer w v then w else v)

  -- where a walk begins: the nearest vertex of the surface
  abbrev pub start : Option ℕ
  start = nearest (surface mesh)

  -- the nearest neighbour of v, if its distance is less than that of v
  abbrev pub next : ℕ → Option ℕ
  next v =
      let w = unwrap_or (nearest (neighbours mesh v)) v in
      if nat_lt (distance w) (distance v) then Some w else None

  -- from v on, each is the next of the one before, and the last has no next one
  abbrev pub IsWalk : ℕ → List ℕ → Type 0
  IsWalk v [] = next v ≡ None
  IsWalk v (w ∷ ws) = (next v ≡ Some w) × IsWalk w ws

  -- the vertex, its next one, and so on, as many as there are, but at most n
  abbrev pub walk_of_most : ℕ → Option ℕ → List ℕ
  walk_of_most zero v = []
  walk_of_most (suc n) None = []
  walk_of_most (suc n) (Some v) = v ∷ walk_of_most n (next v)

  -- the whole walk from v: its distances fall, so it has at most one vertex more than the first of them
  abbrev pub walk : ℕ → List ℕ
  walk v = walk_of_most (suc (distance v)) (Some v)
