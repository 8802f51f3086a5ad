-- lists of numbers
use Rattle.std.specs.Prelude.{ℕ, ◌<◌, ◌≤◌, List, Contains, length, slice_index}
use Rattle.std.specs.List.Sorted.{IsStrictlyIncreasing}

-- the numbers of which P holds, in ascending order, each once
pub record IsListOf (P : ℕ → Type 0) (vs : List ℕ) : Type 0 where
  pub ascending : IsStrictlyIncreasing vs
  pub every : (w : ℕ) → P w → Contains vs w
  pub only : (w : ℕ) → Contains vs w → P w

-- where v belongs in an ascending list that lacks it: what stands before i is less, and the rest is greater
pub record IsPlaceOf (v : ℕ) (xs : List ℕ) (i : ℕ) : Type 0 where
  pub within : i ≤ length xs
  pub before : (k : ℕ) → k < i → slice_index xs k < v
  pub after : (k : ℕ) → i ≤ k → k < length xs → v < slice_index xs k
