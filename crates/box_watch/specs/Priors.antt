-- Which box was last asked with the same corners.
use Rattle.std.specs.Prelude.{ℕ, zero, suc, Bool, ◌&&◌, List, length, slice_index_or, Option, Some, None, if◌then◌else◌, map}
use Rattle.std.specs.List.{range_with_len}
use Rattle.std.specs.Ordering.{int_eq}
use Rattle.mesh_base.specs.Place.{Area}
use Rattle.step_registry.specs.Runs.{no_area}

-- the two boxes have equal corners
abbrev pub same_box : Area → Area → Bool
same_box a b =
    int_eq a.lo.0 b.lo.0
    && (int_eq a.lo.1 b.lo.1
    && (int_eq a.lo.2 b.lo.2 && (int_eq a.hi.0 b.hi.0 && (int_eq a.hi.1 b.hi.1 && int_eq a.hi.2 b.hi.2))))

-- the greatest number below n that passes the test
abbrev pub last_below : (ℕ → Bool) → ℕ → Option ℕ
last_below p zero = None
last_below p (suc n) = if p n then Some n else last_below p n

abbrev pub box_at : List Area → ℕ → Area
box_at boxes q = slice_index_or boxes q no_area

-- the last box before box q with equal corners
abbrev pub prior_of : List Area → ℕ → Option ℕ
prior_of boxes q = last_below (λ i. same_box (box_at boxes i) (box_at boxes q)) q

abbrev pub priors_of : List Area → List (Option ℕ)
priors_of boxes = map (prior_of boxes) (range_with_len 0 (length boxes))
