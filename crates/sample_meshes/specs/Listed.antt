-- Meshes that are listed by hand.
use Rattle.std.specs.Prelude.{ℕ, ℤ, pos, List, [], ◌∷◌, All, map, Option, Some, None, Bool, not, ◌==◌, ◌&&◌, if◌then◌else◌, slice_index_or}
use Rattle.mesh_base.specs.Place.{Place, IsPlace}
use Rattle.mesh_base.specs.Mesh.{Corners, IsMesh, MeshView, corners_of}

-- the three coordinates of an array
abbrev pub place_of : List ℤ → Place
place_of xs = (slice_index_or xs 0 (pos 0), slice_index_or xs 1 (pos 0), slice_index_or xs 2 (pos 0))

-- no number stands twice
abbrev pub are_different : Corners → Bool
are_different c =
    not (c.0 == c.1) && (not (c.0 == c.2) && (not (c.0 == c.3)
    && (not (c.1 == c.2) && (not (c.1 == c.3) && not (c.2 == c.3)))))

-- a row of corners as a cell, which is absent where a number stands twice
abbrev pub cell_of : List ℕ → Option Corners
cell_of row = if are_different (corners_of row) then Some (corners_of row) else None

-- the mesh with a point at each of these places, and a cell for each of these rows of corners
abbrev pub listed : List (List ℤ) → List (List ℕ) → MeshView
listed places rows = record {
  points = map place_of places;
  cells = map cell_of rows;
}

-- each place is in range, and the mesh is one
abbrev pub IsListed : List (List ℤ) → List (List ℕ) → Type 0
IsListed places rows = All (λ at. IsPlace (place_of at)) places
    × IsMesh (listed places rows).points (listed places rows).cells

-- one cell, with a corner at the origin and the others 4 along each axis
abbrev pub one_cell : MeshView
one_cell = record {
  points = (pos 0, pos 0, pos 0) ∷ (pos 4, pos 0, pos 0) ∷ (pos 0, pos 4, pos 0) ∷ (pos 0, pos 0, pos 4) ∷ [];
  cells = Some (0, 1, 2, 3) ∷ [];
}
