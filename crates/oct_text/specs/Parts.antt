-- The parts that a number is cut into as it is read.
use Rattle.std.specs.Prelude.{◌≡◌, ℕ, Bool, true, false, List, [], ◌∷◌, ◌++◌, drop, min, nat_le, ◌^◌, if◌then◌else◌, Result, Ok, Err}
use Rattle.std.specs.List.{position_or_len, before_first, after_first}
use Rattle.std.specs.Str.Parse.{digits_value}
use Rattle.oct_text.specs.Numbers.{is_digit, are_digits, is_point, is_e, is_negative, without_sign, exponent_fits, mantissa_fits}
use Rattle.oct_text.specs.declared.numbers.NumFault.{NumFault}
use Rattle.oct_text.specs.declared.numbers.NumFault.TheVariants as faults

-- there is a first byte, and it passes
abbrev pub starts : (ℕ → Bool) → List ℕ → Bool
starts p [] = false
starts p (b ∷ bs) = p b

-- from the first byte on that passes
abbrev pub from_first : (ℕ → Bool) → List ℕ → List ℕ
from_first p text = drop (position_or_len p text) text

-- the text behind the digits in front of the point: the digits behind the point, and what comes behind them
pub record IsFraction (text back rest : List ℕ) : Type 0 where
  pub point : starts is_point text ≡ true → (are_digits back ≡ true) × (text ≡ 46 ∷ back ++ rest)
      × (starts is_digit rest ≡ false)
  pub none : starts is_point text ≡ false → (back ≡ []) × (rest ≡ text)

-- nothing, or an e first
abbrev pub ends_mantissa : List ℕ → Bool
ends_mantissa [] = true
ends_mantissa (b ∷ bs) = is_e b

-- what an exponent says, where there is one and where there is none
pub record Says (present : Bool) (text : List ℕ) (negative : Bool) (size : ℕ) : Type 0 where
  pub fits : present ≡ true → exponent_fits text ≡ true
  pub there : present ≡ true → (negative ≡ is_negative text) × (size ≡ min (digits_value 10 (without_sign text)) 1000)
  pub none : present ≡ false → (negative ≡ false) × (size ≡ 0)

-- the digits before and behind the point, where there is nothing else before an e, and what comes from the e on
pub record IsMantissa (text front back rest : List ℕ) : Type 0 where
  pub fits : mantissa_fits (before_first is_e text) ≡ true
  pub before_point : front ≡ before_first is_point (before_first is_e text)
  pub behind_point : back ≡ after_first is_point (before_first is_e text)
  pub from_e : rest ≡ from_first is_e text

-- a size, where it is at most 2^30
abbrev pub in_range : ℕ → Result ℕ NumFault
in_range n = if nat_le n (2 ^ 30) then Ok n else Err faults.Range
