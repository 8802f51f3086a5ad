-- Numbers as a text spells them.
use Rattle.std.specs.Prelude.{ℕ, ◌+◌, ◌*◌, ◌%◌, ◌/◌, ◌^◌, Bool, true, ◌||◌, ◌&&◌, ◌==◌, nat_lt, nat_le, if◌then◌else◌, List, ◌++◌, length, drop, Result, Ok, Err, ℤ, pos, neg_ℤ, int_le, slice_index}
use Rattle.std.specs.List.{list_all, list_any, before_first, after_first}
use Rattle.std.specs.Str.Parse.{digits_value}
use Rattle.oct_text.specs.declared.numbers.CountFault.{CountFault}
use Rattle.oct_text.specs.declared.numbers.CountFault.TheVariants as count_faults
use Rattle.oct_text.specs.declared.numbers.NumFault.{NumFault}
use Rattle.oct_text.specs.declared.numbers.NumFault.TheVariants as faults

abbrev pub is_digit : ℕ → Bool
is_digit b = nat_le 48 b && nat_le b 57

-- digits and nothing else
abbrev pub are_digits : List ℕ → Bool
are_digits text = list_all is_digit text

-- from 1 to 40 digits
abbrev pub is_numeral : List ℕ → Bool
is_numeral text = nat_lt 0 (length text) && nat_le (length text) 40 && are_digits text

-- the count that a text spells, of at most `most`
unfoldable pub count_of : List ℕ → ℕ → Result ℕ CountFault
count_of text most =
    if is_numeral text
    then if nat_le (digits_value 10 text) most then Ok (digits_value 10 text) else Err count_faults.Over
    else Err count_faults.Bad

-- a zero in front of another digit
abbrev pub has_leading_zero : List ℕ → Bool
has_leading_zero text = nat_lt 1 (length text) && (slice_index text 0 == 48)

-- ---- signs

-- a plus or a minus
abbrev pub is_sign : ℕ → Bool
is_sign b = (b == 43) || (b == 45)

abbrev pub has_sign : List ℕ → Bool
has_sign text = nat_lt 0 (length text) && is_sign (slice_index text 0)

abbrev pub is_negative : List ℕ → Bool
is_negative text = nat_lt 0 (length text) && (slice_index text 0 == 45)

abbrev pub without_sign : List ℕ → List ℕ
without_sign text = drop (if has_sign text then 1 else 0) text

abbrev pub signed_size : Bool → ℕ → ℤ
signed_size negative size = if negative then neg_ℤ (pos size) else pos size

-- ---- signed numbers

-- at most 40 bytes: a sign or none, and at least one digit
abbrev pub is_signed_numeral : List ℕ → Bool
is_signed_numeral text = nat_le (length text) 40 && nat_lt 0 (length (without_sign text))
    && are_digits (without_sign text)

abbrev pub signed_value : List ℕ → ℤ
signed_value text = signed_size (is_negative text) (digits_value 10 (without_sign text))

-- the signed number that a text spells, from `least` to `most`
unfoldable pub signed_of : List ℕ → ℤ → ℤ → Result ℤ CountFault
signed_of text least most =
    if is_signed_numeral text
    then if int_le least (signed_value text) && int_le (signed_value text) most then Ok (signed_value text)
    else Err count_faults.Over
    else Err count_faults.Bad

-- ---- coordinates

-- e or E
abbrev pub is_e : ℕ → Bool
is_e b = (b == 101) || (b == 69)

abbrev pub is_point : ℕ → Bool
is_point b = b == 46

-- what stands behind an e is a number
abbrev pub exponent_fits : List ℕ → Bool
exponent_fits text = nat_lt 0 (length (without_sign text)) && are_digits (without_sign text)

-- digits and a point, and at least one digit
abbrev pub mantissa_fits : List ℕ → Bool
mantissa_fits text =
    are_digits (before_first is_point text) && are_digits (after_first is_point text)
    && nat_lt 0 (length (before_first is_point text) + length (after_first is_point text))

-- the quotient of two numbers, where it is whole and at most 2^30
unfoldable pub whole_quotient : ℕ → ℕ → Result ℕ NumFault
whole_quotient top bottom =
    if top % bottom == 0 then (if nat_le (top / bottom) (2 ^ 30) then Ok (top / bottom) else Err faults.Range)
    else Err faults.NotWhole

abbrev pub with_sign : Bool → Result ℕ NumFault → Result ℤ NumFault
with_sign negative (Ok size) = Ok (signed_size negative size)
with_sign negative (Err fault) = Err fault

-- Digits, of which so many stand behind the point, with an exponent of this sign and size.
abbrev pub scaled_by : List ℕ → ℕ → Bool → ℕ → Result ℕ NumFault
scaled_by digits behind negative size =
    whole_quotient (digits_value 10 digits * 10 ^ (if negative then 0 else size))
    (10 ^ (behind + (if negative then size else 0)))

abbrev pub scaled : List ℕ → List ℕ → Result ℕ NumFault
scaled mantissa exponent =
    scaled_by (before_first is_point mantissa ++ after_first is_point mantissa)
    (length (after_first is_point mantissa)) (is_negative exponent) (digits_value 10 (without_sign exponent))

-- the size that a text without a sign spells
unfoldable pub size_spelled : List ℕ → Result ℕ NumFault
size_spelled text =
    if mantissa_fits (before_first is_e text) && (if list_any is_e text then exponent_fits (after_first is_e text)
    else true)
    then scaled (before_first is_e text) (after_first is_e text)
    else Err faults.Bad

-- the coordinate that a text spells: an optional sign, digits, an optional point and digits, and an optional exponent,
-- of 40 bytes at most
unfoldable pub coordinate_of : List ℕ → Result ℤ NumFault
coordinate_of text = if nat_le (length text) 40 then with_sign (is_negative text) (size_spelled (without_sign text))
    else Err faults.Bad
