-- How a reader goes over a text: by its lines, and over a line by its words.
use Rattle.std.specs.Prelude.{◌≡◌, ℕ, ◌<◌, Bool, not, ◌⊎◌, List, ◌∷◌, length, Result, Ok, Err}
use Rattle.run_script.specs.declared.fault.ScriptKind.{ScriptKind}
use Rattle.std.specs.Cmp.Lexicographic.{pointwise}
use Rattle.std.specs.Str.{bytes_eq}
use Rattle.script_format.specs.ScriptText.{Word, is_space, words, Read}

-- no space and no tab
abbrev pub is_solid : ℕ → Bool
is_solid b = not (is_space b)

-- the pieces of the text are the front and those of the rest
pub record Cuts (pieces_of : List ℕ → List (List ℕ)) (text front rest : List ℕ) : Type 0 where
  pub pieces : pieces_of text ≡ front ∷ pieces_of rest
  pub shorter : length rest < length text

-- a value of a line was read, and what is left of the line, as it is defined
abbrev pub Reads : {A X : Type 0} → (X → A) → (X → List ℕ) → Result X ScriptKind → Read A → Type 0
Reads value left (Ok r) read = read ≡ Ok (value r, words (left r))
Reads value left (Err kind) read = read ≡ Err kind

-- the words of the line are this one and those of the rest
abbrev pub Begins : List ℕ → List ℕ → List ℕ → Type 0
Begins line word rest = (ws : List Word) → pointwise bytes_eq (words line) (word ∷ ws)
    ≡ pointwise bytes_eq (words rest) ws

abbrev pub IsVersion : ℕ → Type 0
IsVersion version = (version ≡ 1) ⊎ (version ≡ 2)
