-- the cells of each point, one row after the other in one list
use Rattle.std.specs.Prelude.{◌≡◌, ℕ, zero, suc, ◌+◌, ◌-◌, ◌==◌, ◌<◌, ◌≤◌, if◌then◌else◌, List, [], ◌∷◌, ◌++◌, Option, Some, None, length, map, slice_index, slice_index_or, slice_range}
use Rattle.std.specs.List.{range_with_len}
use Rattle.mesh_base.specs.Mesh.{Corners}

-- one corner of a cell: the number of the point, and that of the cell
abbrev pub Corner : Type 0
Corner = ℕ × ℕ

-- the corners of cell number i, if it is live
abbrev pub corners_at : Option Corners → ℕ → List Corner
corners_at None i = []
corners_at (Some c) i = (c.0, i) ∷ (c.1, i) ∷ (c.2, i) ∷ (c.3, i) ∷ []

-- the corners of the first n cells, in their order
abbrev pub corners_before : List (Option Corners) → ℕ → List Corner
corners_before cells zero = []
corners_before cells (suc n) = corners_before cells n ++ corners_at (slice_index_or cells n None) n

-- the cells of the corners at point v, in their order
abbrev pub row_of : ℕ → List Corner → List ℕ
row_of v [] = []
row_of v (c ∷ cs) = if c.0 == v then c.1 ∷ row_of v cs else row_of v cs

-- how many of the corners are at points before v
abbrev pub start_of : List Corner → ℕ → ℕ
start_of all zero = 0
start_of all (suc v) = start_of all v + length (row_of v all)

-- behind the number at 0, which is 0, the number of corners at each point
pub record IsCounted (done : List Corner) (starts : List ℕ) : Type 0 where
  pub first : slice_index starts 0 ≡ 0
  pub each : (v : ℕ) → v + 1 < length starts → slice_index starts (v + 1) ≡ length (row_of v done)

-- the sum of the numbers from place 1 to place v
abbrev pub sum_to : List ℕ → ℕ → ℕ
sum_to counts zero = 0
sum_to counts (suc v) = sum_to counts v + slice_index counts (v + 1)

-- Of all corners these were placed: the cells of each point stand from the start of its row on, and the number behind
-- that of the point says where the next one goes.
pub record IsPlaced (all done : List Corner) (starts numbers : List ℕ) : Type 0 where
  pub first : slice_index starts 0 ≡ 0
  pub ends : (v : ℕ) → v + 1 < length starts → slice_index starts (v + 1) ≡ start_of all v + length (row_of v done)
  pub items : (v k : ℕ) → v + 1 < length starts → k < length (row_of v done)
      → slice_index numbers (start_of all v + k) ≡ slice_index (row_of v done) k

-- the rows do not go back, and end in the list
pub record AreRows (starts numbers : List ℕ) : Type 0 where
  pub some : 0 < length starts
  pub few : length starts ≤ 1000001
  pub ordered : (v : ℕ) → v + 1 < length starts → slice_index starts v ≤ slice_index starts (v + 1)
  pub ends : (v : ℕ) → v + 1 < length starts → slice_index starts (v + 1) ≤ length numbers

-- the parts of the list from each start to the next one
abbrev pub rows_between : List ℕ → List ℕ → List (List ℕ)
rows_between starts numbers = map (λ v. slice_range numbers (slice_index starts v) (slice_index starts (v + 1)))
    (range_with_len 0 (length starts - 1))
