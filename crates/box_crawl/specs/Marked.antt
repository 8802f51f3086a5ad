-- marks on point numbers
use Rattle.std.specs.Prelude.{ℕ, ◌^◌, ◌<◌, ◌≤◌, Bool, false, List, length, slice_index_or, All}

-- v is marked
abbrev pub is_marked : List Bool → ℕ → Bool
is_marked marks v = slice_index_or marks v false

-- the number of each point, none of them above the round
pub record AreNumbers (numbers : List ℕ) (round : ℕ) : Type 0 where
  pub few : length numbers < 2 ^ 32
  pub past : All (λ n. n ≤ round) numbers
