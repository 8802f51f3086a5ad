-- The lines of a METADATA part, as a relation between a text and how many bytes of it the part has.
use Rattle.std.specs.Prelude.{◌≡◌, ℕ, ◌+◌, Bool, true, false, not, List, [], ◌∷◌, ◌++◌, length, flat_map, All, ◌⊎◌}
use Rattle.std.specs.List.{list_all}
use Rattle.oct_text.specs.Rest.{is_blank, is_lf}

-- no line ends within it
abbrev pub is_one_line : List ℕ → Bool
is_one_line xs = list_all (λ b. not (is_lf b)) xs

-- a line that has something else than blanks, with its LF
pub record IsFullLine (line : List ℕ) : Type 0 where
  pub front : List ℕ
  pub text : line ≡ front ++ (10 ∷ [])
  pub one : is_one_line front ≡ true
  pub full : list_all is_blank front ≡ false

-- a line of blanks alone, with its LF
pub record IsBlankLine (line : List ℕ) : Type 0 where
  pub front : List ℕ
  pub text : line ≡ front ++ (10 ∷ [])
  pub one : is_one_line front ≡ true
  pub blank : list_all is_blank front ≡ true

-- all these lines one behind the other
abbrev pub joined : List (List ℕ) → List ℕ
joined lines = flat_map (λ line. line) lines

-- The first `count` bytes are full lines and the first blank one behind them; or, where no line is blank, all bytes.
pub record EndsAtBlankLine (bytes : List ℕ) (count : ℕ) : Type 0 where
  pub lines : List (List ℕ)
  pub last : List ℕ
  pub rest : List ℕ
  pub text : bytes ≡ joined lines ++ (last ++ rest)
  pub len : count ≡ length (joined lines) + length last
  pub full : All IsFullLine lines
  pub ends : IsBlankLine last ⊎ ((rest ≡ []) × (is_one_line last ≡ true))
