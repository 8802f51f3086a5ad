-- places and boxes
use Rattle.std.specs.Prelude.{ℕ, ◌+◌, ◌*◌, ◌^◌, Bool, ◌&&◌, ℤ, pos, neg_ℤ, ◌≤ℤ◌, int_le}
use Rattle.std.specs.Int.{int_gap}

-- a place: its coordinates on x, y and z
abbrev pub Place : Type 0
Place = ℤ × ℤ × ℤ

-- the coordinate lies from -2^30 to 2^30
abbrev pub IsCoordinate : ℤ → Type 0
IsCoordinate c = (neg_ℤ (pos (2 ^ 30)) ≤ℤ c) × (c ≤ℤ pos (2 ^ 30))

-- each of its coordinates does
abbrev pub IsPlace : Place → Type 0
IsPlace p = IsCoordinate p.0 × IsCoordinate p.1 × IsCoordinate p.2

-- a box: its low and its high corner
pub record Area : Type 0 where
  pub lo : Place
  pub hi : Place

-- no coordinate of the low corner is above that of the high one
abbrev pub IsArea : Place → Place → Type 0
IsArea lo hi = (lo.0 ≤ℤ hi.0) × (lo.1 ≤ℤ hi.1) × (lo.2 ≤ℤ hi.2)

-- the same, as it is computed
abbrev pub is_area : Place → Place → Bool
is_area lo hi = int_le lo.0 hi.0 && (int_le lo.1 hi.1 && int_le lo.2 hi.2)

-- c lies from low to high, both included
abbrev pub is_between : ℤ → ℤ → ℤ → Bool
is_between low high c = int_le low c && int_le c high

-- the place is in the box; its six sides belong to it
abbrev pub is_inside : Area → Place → Bool
is_inside area p =
    is_between area.lo.0 area.hi.0 p.0 && is_between area.lo.1 area.hi.1 p.1
    && is_between area.lo.2 area.hi.2 p.2

-- how far c lies below low, or above high
abbrev pub gap : ℤ → ℤ → ℤ → ℕ
gap low high c = int_gap c low + int_gap high c

-- a number times itself
abbrev pub square : ℕ → ℕ
square n = n * n

-- the squared distance from the place to the nearest point of the box
abbrev pub dist2 : Area → Place → ℕ
dist2 area p =
    square (gap area.lo.0 area.hi.0 p.0) + square (gap area.lo.1 area.hi.1 p.1)
    + square (gap area.lo.2 area.hi.2 p.2)

-- the squared distance between two places
abbrev pub apart2 : Place → Place → ℕ
apart2 p q = square (gap q.0 q.0 p.0) + square (gap q.1 q.1 p.1) + square (gap q.2 q.2 p.2)
