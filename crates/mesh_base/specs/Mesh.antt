-- meshes: vertices, faces, the surface and neighbours, each counted from all live cells
use Rattle.std.specs.Prelude.{◌≢◌, ℕ, ◌<◌, ◌≤◌, min, max, ◌==◌, Bool, not, ◌&&◌, ◌||◌, pos, List, [], ◌∷◌, length, Option, count_by, filter, filter_map, flat_map, slice_index, slice_index_or, All, IfSome}
use Rattle.std.specs.List.{list_any, range_with_len}
use Rattle.mesh_base.specs.Place.{Place}
use Rattle.mesh_base.specs.Limits.{most_cells, most_points}

-- a cell: four point numbers
abbrev pub Corners : Type 0
Corners = ℕ × ℕ × ℕ × ℕ

-- the four numbers of an array
abbrev pub corners_of : List ℕ → Corners
corners_of xs = (slice_index xs 0, slice_index xs 1, slice_index xs 2, slice_index xs 3)

-- no two of the four are equal
abbrev pub AreDifferent : Corners → Type 0
AreDifferent c = (c.0 ≢ c.1) × (c.0 ≢ c.2) × (c.0 ≢ c.3) × (c.1 ≢ c.2) × (c.1 ≢ c.3) × (c.2 ≢ c.3)

-- v is one of the four
abbrev pub has_corner : Corners → ℕ → Bool
has_corner c v = (c.0 == v) || (c.1 == v) || (c.2 == v) || (c.3 == v)

-- a mesh: its places, and its cells, of which some are absent
pub record MeshView : Type 0 where
  pub points : List Place
  pub cells : List (Option Corners)

-- all four numbers are below the number of points
abbrev pub IsWithin : ℕ → Corners → Type 0
IsWithin points c = (c.0 < points) × (c.1 < points) × (c.2 < points) × (c.3 < points)

-- so are those of each live cell
abbrev pub AreWithin : ℕ → List (Option Corners) → Type 0
AreWithin points cells = All (λ cell. IfSome cell (IsWithin points)) cells

-- no live cell has a number twice
abbrev pub AreAllDifferent : List (Option Corners) → Type 0
AreAllDifferent cells = All (λ cell. IfSome cell AreDifferent) cells

-- the limits, and each live cell has four different points of the mesh
pub record IsMesh (points : List Place) (cells : List (Option Corners)) : Type 0 where
  pub few_points : length points ≤ most_points
  pub few_cells : length cells ≤ most_cells
  pub within : AreWithin (length points) cells
  pub different : AreAllDifferent cells

-- the cells that are not absent
abbrev pub live : List (Option Corners) → List Corners
live cells = filter_map (λ cell. cell) cells

-- some live cell has v
abbrev pub is_vertex : List (Option Corners) → ℕ → Bool
is_vertex cells v = list_any (λ c. has_corner c v) (live cells)

-- all point numbers of the mesh, ascending
abbrev pub numbers : MeshView → List ℕ
numbers mesh = range_with_len 0 (length mesh.points)

-- the point numbers that some live cell has, ascending
abbrev pub vertices : MeshView → List ℕ
vertices mesh = filter (is_vertex mesh.cells) (numbers mesh)

-- a face: three point numbers
abbrev pub Face : Type 0
Face = ℕ × ℕ × ℕ

-- the number between the least and the greatest of three
abbrev pub middle : ℕ → ℕ → ℕ → ℕ
middle a b c = max (min a b) (min (max a b) c)

-- the three numbers in ascending order
abbrev pub face_of : ℕ → ℕ → ℕ → Face
face_of a b c = (min a (min b c), middle a b c, max a (max b c))

-- v is one of the three
abbrev pub is_on : Face → ℕ → Bool
is_on f v = (f.0 == v) || (f.1 == v) || (f.2 == v)

-- the four faces of a cell, each without one corner
abbrev pub faces : Corners → List Face
faces c = face_of c.1 c.2 c.3 ∷ face_of c.0 c.2 c.3 ∷ face_of c.0 c.1 c.3 ∷ face_of c.0 c.1 c.2 ∷ []

-- the cell has all three
abbrev pub has_face : Corners → Face → Bool
has_face c f = has_corner c f.0 && has_corner c f.1 && has_corner c f.2

-- the two faces have the same numbers
abbrev pub face_eq : Face → Face → Bool
face_eq f g = (f.0 == g.0) && ((f.1 == g.1) && (f.2 == g.2))

-- its numbers ascend
abbrev pub IsFace : Face → Type 0
IsFace f = (f.0 < f.1) × (f.1 < f.2)

-- how many faces of live cells are f: this is `count`, where the cells are well formed
abbrev pub face_count : List (Option Corners) → Face → ℕ
face_count cells f = count_by (λ g. face_eq g f) (flat_map faces (live cells))

-- how many live cells have all three
abbrev pub count : List (Option Corners) → Face → ℕ
count cells f = count_by (λ c. has_face c f) (live cells)

-- v is on a face that exactly one live cell has
abbrev pub is_surface : List (Option Corners) → ℕ → Bool
is_surface cells v = list_any (λ f. is_on f v && (count cells f == 1)) (flat_map faces (live cells))

-- the vertices on faces that exactly one live cell has, ascending
abbrev pub surface : MeshView → List ℕ
surface mesh = filter (is_surface mesh.cells) (numbers mesh)

-- v and w differ, and one live cell has both
abbrev pub are_neighbours : List (Option Corners) → ℕ → ℕ → Bool
are_neighbours cells v w = not (v == w) && list_any (λ c. has_corner c v && has_corner c w) (live cells)

-- all neighbours of v, ascending
abbrev pub neighbours : MeshView → ℕ → List ℕ
neighbours mesh v = filter (are_neighbours mesh.cells v) (numbers mesh)

-- how many neighbours v has
abbrev pub degree : MeshView → ℕ → ℕ
degree mesh v = length (neighbours mesh v)

-- the place of point number v
abbrev pub place : MeshView → ℕ → Place
place mesh v = slice_index_or mesh.points v (pos 0, pos 0, pos 0)
