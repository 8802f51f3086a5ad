-- the corners of live cells, range of points by range of points
use Rattle.std.specs.Prelude.{◌≡◌, ℕ, ◌/◌, ◌==◌, List, [], ◌∷◌, Option, filter, flat_map, sum_by, nat_lt}
use Rattle.std.specs.Option.{option_map_or}
use Rattle.mesh_base.specs.Mesh.{Corners, live}

-- the corners of a cell, each with the three others behind it
abbrev pub corners_of_cell : Corners → List Corners
corners_of_cell c = (c.0, c.1, c.2, c.3) ∷ (c.1, c.0, c.2, c.3) ∷ (c.2, c.0, c.1, c.3) ∷ (c.3, c.0, c.1, c.2) ∷ []

-- those of all live cells
abbrev pub all_corners : List (Option Corners) → List Corners
all_corners cells = flat_map corners_of_cell (live cells)

-- which range point v is in: a range has 2^15 points
abbrev pub range_of : ℕ → ℕ
range_of v = v / 32768

-- the corners at the points of a range
abbrev pub corners_in : ℕ → List (Option Corners) → List Corners
corners_in range cells = filter (λ k. range_of k.0 == range) (all_corners cells)

-- the corners at the points of all ranges before this one
abbrev pub corners_before : ℕ → List (Option Corners) → List Corners
corners_before range cells = filter (λ k. nat_lt (range_of k.0) range) (all_corners cells)

-- what a slot counts for, where g says it of a corner: an empty one counts for nothing
abbrev pub slot_share : (Corners → ℕ) → Option Corners → ℕ
slot_share g slot = option_map_or g slot 0

-- the slots hold these corners and no others, each as often as it is listed: all sums over both are equal
abbrev pub AreSlotsOf : List Corners → List (Option Corners) → Type 0
AreSlotsOf corners slots = (g : Corners → ℕ) → sum_by (slot_share g) slots ≡ sum_by g corners

-- what a buffer shows: its cells, how many ranges their points have, and its slots
pub record Buffer : Type 0 where
  pub cells : List (Option Corners)
  pub count : ℕ
  pub slots : List (Option Corners)
