-- paths that stay inside a box, and what they join
use Rattle.std.specs.Prelude.{◌≡◌, ℕ, List, [], ◌∷◌, Contains, IsTrue}
use Rattle.mesh_base.specs.Place.{Area}
use Rattle.mesh_base.specs.Mesh.{MeshView, are_neighbours}
use Rattle.mesh_base.specs.Scan.{scan}

module _ (mesh : MeshView) (area : Area) where
  -- from v by these vertices to w: each is inside, and each is a neighbour of the one before
  abbrev pub InsidePath : ℕ → List ℕ → ℕ → Type 0
  InsidePath v [] w = Contains (scan mesh area) v × (v ≡ w)
  InsidePath v (u ∷ us) w =
      Contains (scan mesh area) v × IsTrue (are_neighbours mesh.cells v u) × InsidePath u us w

  -- some inside path leads from v to w
  abbrev pub Joined : ℕ → ℕ → Type 0
  Joined v w = (path : List ℕ) × InsidePath v path w

  -- w is joined to a vertex of the list
  abbrev pub JoinedToOne : List ℕ → ℕ → Type 0
  JoinedToOne seeds w = (s : ℕ) × Contains seeds s × Joined s w
