-- Ascending lists of numbers, one without the other.
use Rattle.std.specs.Prelude.{ℕ, ◌==◌, Bool, not, List, filter}
use Rattle.std.specs.List.{list_any}

-- the list has the number
abbrev pub has : List ℕ → ℕ → Bool
has xs v = list_any (λ w. w == v) xs

-- those of the first list that the second one doesn't have, in their order
abbrev pub without : List ℕ → List ℕ → List ℕ
without xs ys = filter (λ v. not (has ys v)) xs
