-- What single tokens say, and the first fault where one does not fit. A reader goes on from a place, and gives what it
-- read and what is left.
use Rattle.std.specs.Prelude.{ℕ, ◌-◌, ◌^◌, if◌then◌else◌, List, ◌∷◌, Option, Some, None, Result, Ok, Err, ℤ}
use Rattle.oct_text.specs.Rest.{Left, Token, next_token, end_of}
use Rattle.oct_text.specs.Numbers.{count_of, coordinate_of}
use Rattle.oct_text.specs.declared.numbers.CountFault.{CountFault}
use Rattle.oct_text.specs.declared.numbers.CountFault.TheVariants as count_faults
use Rattle.oct_text.specs.declared.numbers.NumFault.{NumFault}
use Rattle.oct_text.specs.declared.numbers.NumFault.TheVariants as faults
use Rattle.vtk_legacy.specs.declared.fault.MeshKind.{MeshKind}
use Rattle.vtk_legacy.specs.declared.fault.MeshKind.TheVariants as kinds
use Rattle.vtk_legacy.specs.Words.{word_is, is_numeric}

-- what is wrong first, and where
pub record Fault : Type 0 where
  pub kind : MeshKind
  pub place : ℕ

abbrev pub fault : MeshKind → ℕ → Fault
fault kind place = record { kind = kind; place = place }

-- one reader behind another: the first fault stays
infixl 10 ◌>>=◌
abbrev pub ◌>>=◌ : {A B : Type 0} → Result A Fault → (A → Result B Fault) → Result B Fault
(Ok x) >>= f = f x
(Err e) >>= f = Err e

-- what a rule read, and what is left
abbrev pub Read : Type 0 → Type 0
Read A = Result (A × Left) Fault

-- one more at the front of a list that was read
abbrev pub with_first : {A : Type 0} → A → List A × Left → Read (List A)
with_first x xs = Ok (x ∷ xs.0, xs.1)

-- where a token is needed and the text has ended, the fault stands at the end
abbrev pub or_truncated : {A : Type 0} → ℕ → Option A → Result A Fault
or_truncated place (Some x) = Ok x
or_truncated place None = Err (fault kinds.Truncated place)

-- the next token
abbrev pub token : Left → Read Token
token l = or_truncated (end_of l) (next_token l)

abbrev pub expected : List ℕ → MeshKind → Token × Left → Result Left Fault
expected word kind t = if word_is t.0.text word then Ok t.1 else Err (fault kind t.0.place)

-- a token that is this word
abbrev pub expect : List ℕ → MeshKind → Left → Result Left Fault
expect word kind l = token l >>= expected word kind

abbrev pub counted : Token × Left → Result ℕ CountFault → Read ℕ
counted t (Ok n) = Ok (n, t.1)
counted t (Err count_faults.Bad) = Err (fault kinds.Number t.0.place)
counted t (Err count_faults.Over) = Err (fault kinds.Count t.0.place)

abbrev pub count_taken : ℕ → Token × Left → Read ℕ
count_taken most t = counted t (count_of t.0.text most)

-- a count of at most `most`
abbrev pub count : ℕ → Left → Read ℕ
count most l = token l >>= count_taken most

-- the most that fits 32 bits
abbrev pub most_count : ℕ
most_count = 2 ^ 32 - 1

abbrev pub placed : Token × Left → Result ℤ NumFault → Read ℤ
placed t (Ok z) = Ok (z, t.1)
placed t (Err faults.Bad) = Err (fault kinds.Number t.0.place)
placed t (Err faults.NotWhole) = Err (fault kinds.NotWhole t.0.place)
placed t (Err faults.Range) = Err (fault kinds.Range t.0.place)

abbrev pub coordinate_taken : Token × Left → Read ℤ
coordinate_taken t = placed t (coordinate_of t.0.text)

abbrev pub coordinate : Left → Read ℤ
coordinate l = token l >>= coordinate_taken

abbrev pub numeric_taken : MeshKind → Token × Left → Result Left Fault
numeric_taken kind t = if is_numeric t.0.text then Ok t.1 else Err (fault kind t.0.place)

-- the word of a type of numbers
abbrev pub numeric : MeshKind → Left → Result Left Fault
numeric kind l = token l >>= numeric_taken kind
