-- What stands at the front of a rest, where that is a plain number.
use Rattle.std.specs.Prelude.{◌≡◌, ℕ, Bool, true, List, [], ◌∷◌, Ok, ℤ}
use Rattle.std.specs.Str.Parse.{digits_value}
use Rattle.oct_text.specs.Rest.{Rest, Token, behind}
use Rattle.oct_text.specs.Numbers.{is_numeral, coordinate_of}
use Rattle.oct_text.specs.Taken.{Takes}

-- A token was taken that spells this count.
pub record TakesCount (old : Rest) (n : ℕ) (new : Rest) : Type 0 where
  pub token : Token
  pub takes : Takes old token new
  pub numeral : is_numeral token.text ≡ true
  pub value : digits_value 10 token.text ≡ n

-- Tokens were taken that spell these counts, one after another.
abbrev pub TakesCounts : Rest → List ℕ → Rest → Type 0
TakesCounts old [] new = new ≡ old
TakesCounts old (n ∷ ns) new = (mid : Rest) × TakesCount old n mid × TakesCounts mid ns new

-- A token was taken that spells this coordinate.
pub record TakesWhole (old : Rest) (z : ℤ) (new : Rest) : Type 0 where
  pub token : Token
  pub takes : Takes old token new
  pub value : coordinate_of token.text ≡ Ok z

-- Tokens were taken that spell these coordinates, one after another.
abbrev pub TakesWholes : Rest → List ℤ → Rest → Type 0
TakesWholes old [] new = new ≡ old
TakesWholes old (z ∷ zs) new = (mid : Rest) × TakesWhole old z mid × TakesWholes mid zs new

abbrev pub rest_of : ℕ → Bool → List ℕ → Rest
rest_of place ended bytes = record { place = place; bytes = bytes; ended = ended }

-- So many bytes at the front are blanks and a count, and the count ends there however the text goes on.
abbrev pub HasCount : List ℕ → ℕ → ℕ → Type 0
HasCount bytes n len = (place : ℕ) (ended : Bool)
    → TakesCount (rest_of place ended bytes) n (behind len (rest_of place ended bytes))

-- So many bytes at the front are blanks and a coordinate.
abbrev pub HasWhole : List ℕ → ℤ → ℕ → Type 0
HasWhole bytes z len = (place : ℕ) (ended : Bool)
    → TakesWhole (rest_of place ended bytes) z (behind len (rest_of place ended bytes))
