-- which cells are looked at for a range
use Rattle.std.specs.Prelude.{◌≡◌, ℕ, ◌<◌, ◌==◌, false, Bool, ◌||◌, List, [], ◌∷◌, Option, Vec, map, slice_index_or, sum_by}
use Rattle.std.specs.Option.{option_map_or}
use Rattle.std.specs.declared.alloc.Global.{Global}
use Rattle.mesh_base.specs.Mesh.{Corners}
use Rattle.mesh_base.specs.Edit.{cell_at}
use Rattle.corner_ranges.specs.Ranges.{range_of, corners_in}

-- a corner of the cell is at a point of the range
abbrev pub reaches : Option Corners → ℕ → Bool
reaches cell range = option_map_or (λ c. (range_of c.0 == range) || (range_of c.1 == range)
    || (range_of c.2 == range) || (range_of c.3 == range)) cell false

-- the numbers that are listed for a range
abbrev pub listed : List (Vec ℕ Global) → ℕ → List ℕ
listed visits range = slice_index_or (map (λ v. v.items) visits) range []

-- what g gives together for the corners of cell i that are at points of the range
abbrev pub visit_share : (Corners → ℕ) → ℕ → List (Option Corners) → ℕ → ℕ
visit_share g range cells i = sum_by g (corners_in range (cell_at cells i ∷ []))

-- the cells with these numbers have all corners that are at points of the range
abbrev pub HaveRange : List (Option Corners) → ℕ → List ℕ → Type 0
HaveRange cells range numbers = (g : Corners → ℕ)
    → sum_by (visit_share g range cells) numbers ≡ sum_by g (corners_in range cells)

-- so have those that are listed for each range
abbrev pub HaveRanges : List (Option Corners) → ℕ → List (Vec ℕ Global) → Type 0
HaveRanges cells count visits = (range : ℕ) → range < count → HaveRange cells range (listed visits range)
