-- The words that were shown, by all seats, the newest first.
use Rattle.std.specs.Prelude.{◌≡◌, ℕ, ◌==◌, cond, List, [], ◌∷◌}

-- who showed a word
pub record Shown : Type 0 where
  pub by : ℕ
  pub word : ℕ

-- the word that was shown last, and 0 before any
abbrev pub latest_of : List Shown → ℕ
latest_of [] = 0
latest_of (x ∷ xs) = x.word

-- the words that the seat n showed
abbrev pub shown_by : ℕ → List Shown → List ℕ
shown_by n [] = []
shown_by n (x ∷ xs) = cond (x.by == n) (x.word ∷ shown_by n xs) (shown_by n xs)

-- the word is the last of a list of shown words, which has of the seat n just these
abbrev pub IsLatest : ℕ → List ℕ → ℕ → Type 0
IsLatest n shown word = (shows : List Shown) × (latest_of shows ≡ word) × (shown_by n shows ≡ shown)
