-- how many live cells have both of two vertices
use Rattle.std.specs.Prelude.{◌≡◌, ℕ, false, ◌-◌, ◌<◌, ◌==◌, List, [], ◌∷◌, length, All, slice_index_or, sum_by, not, ◌&&◌, Option, Some, if◌then◌else◌}
use Rattle.mesh_base.specs.Mesh.{Corners, has_corner, live, is_vertex}
use Rattle.mesh_base.specs.Edit.{cell_at}
use Rattle.std.specs.List.Sorted.{IsStrictlyIncreasing}
use Rattle.mesh_base.specs.Limits.{most_cells}

-- the number that stands at the place of w, or 0
abbrev pub number_at : List ℕ → List ℕ → ℕ → ℕ
number_at [] ns w = 0
number_at (x ∷ xs) [] w = 0
number_at (x ∷ xs) (n ∷ ns) w = if x == w then n else number_at xs ns w

-- ascending neighbours, and at the same places numbers that are not 0
pub record IsRow (near counts : List ℕ) : Type 0 where
  pub ascending : IsStrictlyIncreasing near
  pub even : length counts ≡ length near
  pub some : All (λ n. 0 < n) counts

-- what a row shows: its neighbours and their numbers
abbrev pub RowView : Type 0
RowView = List ℕ × List ℕ

-- how many cells have both v and w, by the rows
abbrev pub pair_count : List RowView → ℕ → ℕ → ℕ
pair_count rows v w = let r = slice_index_or rows v ([], []) in number_at r.0 r.1 w

-- 1 where the cell has both, and they differ
abbrev pub pair_share : Corners → ℕ → ℕ → ℕ
pair_share c v w = if not (v == w) && (has_corner c v && has_corner c w) then 1 else 0

-- how many live cells have both, where they differ
abbrev pub cell_pairs : List (Option Corners) → ℕ → ℕ → ℕ
cell_pairs cells v w = sum_by (λ c. pair_share c v w) (live cells)

-- the table has the pairs of these cells
abbrev pub IsPairsOf : List (Option Corners) → List RowView → Type 0
IsPairsOf cells rows = (v w : ℕ) → pair_count rows v w ≡ cell_pairs cells v w

-- the table has the pairs of some cells, and this is a live one of them
abbrev pub HasCell : List RowView → Corners → Type 0
HasCell rows c = (cells : List (Option Corners)) × (i : ℕ) × IsPairsOf cells rows × (cell_at cells i ≡ Some c)

-- the table has the pairs of so few cells that one more is allowed
abbrev pub HasRoom : List RowView → Type 0
HasRoom rows = (cells : List (Option Corners)) × IsPairsOf cells rows × (length cells < most_cells)

-- the table has the pairs of some cells, none of which has the last point
abbrev pub HasFreePoint : List RowView → Type 0
HasFreePoint rows = (cells : List (Option Corners)) × IsPairsOf cells rows × (is_vertex cells (length rows - 1) ≡ false)
