-- cells by their corners: each list is a filter over the numbers of all cells
use Rattle.std.specs.Prelude.{ℕ, ◌==◌, Bool, false, ◌&&◌, ◌||◌, List, Option, None, length, filter, map, slice_index_or}
use Rattle.std.specs.Option.{option_map_or}
use Rattle.std.specs.List.{list_any, range_with_len}
use Rattle.mesh_base.specs.Mesh.{Corners, MeshView, has_corner}
use Rattle.cell_box.specs.declared.how.How.{How}
use Rattle.cell_box.specs.declared.how.How.TheVariants.{Whole, Touching}

-- cell number i is live, and p holds of its corners
abbrev pub is_live_with : List (Option Corners) → (Corners → Bool) → ℕ → Bool
is_live_with cells p i = option_map_or p (slice_index_or cells i None) false

-- the numbers of the live cells of whose corners p holds, ascending
abbrev pub cells_where : List (Option Corners) → (Corners → Bool) → List ℕ
cells_where cells p = filter (is_live_with cells p) (range_with_len 0 (length cells))

-- v is in the list
abbrev pub is_listed : List ℕ → ℕ → Bool
is_listed vs v = list_any (λ w. w == v) vs

-- all four corners are in the list
abbrev pub has_all : List ℕ → Corners → Bool
has_all vs c = is_listed vs c.0 && is_listed vs c.1 && is_listed vs c.2 && is_listed vs c.3

-- at least one of the four is
abbrev pub has_some : List ℕ → Corners → Bool
has_some vs c = is_listed vs c.0 || is_listed vs c.1 || is_listed vs c.2 || is_listed vs c.3

-- the live cells all of whose corners are in the list, ascending
abbrev pub cells_all : MeshView → List ℕ → List ℕ
cells_all mesh vs = cells_where mesh.cells (has_all vs)

-- the live cells at least one of whose corners is in the list, ascending
abbrev pub cells_some : MeshView → List ℕ → List ℕ
cells_some mesh vs = cells_where mesh.cells (has_some vs)

-- the live cells that have v, ascending
abbrev pub cells_with : List (Option Corners) → ℕ → List ℕ
cells_with cells v = cells_where cells (λ c. has_corner c v)

-- for each of so many points, the live cells that have it
abbrev pub rows_of : ℕ → List (Option Corners) → List (List ℕ)
rows_of points cells = map (cells_with cells) (range_with_len 0 points)

-- for each point of the mesh, the live cells that have it
abbrev pub incidence_of : MeshView → List (List ℕ)
incidence_of mesh = rows_of (length mesh.points) mesh.cells

-- the cells that are asked for
abbrev pub cells_by : How → MeshView → List ℕ → List ℕ
cells_by Whole mesh vs = cells_all mesh vs
cells_by Touching mesh vs = cells_some mesh vs

-- how many corners of such a cell are in the list, at least
abbrev pub least_of : How → ℕ
least_of Whole = 4
least_of Touching = 1
