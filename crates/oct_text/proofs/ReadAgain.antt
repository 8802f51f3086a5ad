-- What was read, printed and read again.
use Rattle.std.proofs.Common.{◌≡◌, ℕ, zero, suc, ◌/◌, ◌%◌, ◌^◌, ◌<◌, ◌≤◌, Bool, true, false, cond, eqb, leb, List, length, get_or, Result, Ok, Err, ℤ, pos, refl, sym, ap, ◌∙◌, arith, rules}
use Rattle.std.specs.Prelude.{◌&&◌, ◌≤ℤ◌, int_le, neg_ℤ, FitsSigned}
use Rattle.std.specs.Int.{w64}
use Rattle.std.specs.Fmt.{decimal, signed_decimal}
use Rattle.std.specs.Str.Parse.{digits_value, AllDigits}
use Rattle.std.proofs.lemmas.Str.Parse.{IsNumeralModel}
use Rattle.std.proofs.lemmas.Fmt.{decimal-digits_value}
use Rattle.std.proofs.lemmas.Bool.Decides.{nat_tests}
use Rattle.std.proofs.lemmas.Int.{ints}
use Rattle.oct_text.specs.Numbers.{are_digits, is_numeral, count_of, is_negative, without_sign, is_signed_numeral, signed_value, signed_size, signed_of, size_spelled, coordinate_of, with_sign, whole_quotient, has_leading_zero}
use Rattle.oct_text.specs.declared.numbers.NumFault.{NumFault}
use Rattle.oct_text.specs.declared.numbers.NumFault.TheVariants as faults
use Rattle.oct_text.specs.declared.numbers.CountFault.{CountFault}
use Rattle.oct_text.specs.declared.numbers.CountFault.TheVariants as count_faults
use Rattle.oct_text.proofs.Quotient.{all_digits_are}
use Rattle.oct_text.proofs.Written.{count_of-decimal, signed_of-decimal, coordinate_of-decimal}

-- ---- counts

-- what is known of a text that spells a count
pub record IsRead (text : List ℕ) (most n : ℕ) : Type 0 where
  pub numeral : is_numeral text ≡ true
  pub value : digits_value 10 text ≡ n
  pub within : n ≤ most

read_by : (text : List ℕ) (most n : ℕ) (a b : Bool) → is_numeral text ≡ a → leb (digits_value 10 text) most ≡ b
    → (let r : Result ℕ CountFault = cond a (cond b (Ok (digits_value 10 text)) (Err count_faults.Over)) (Err count_faults.Bad) in r ≡ Ok n) → IsRead text most n
read_by text most n true true e f h = let v : digits_value 10 text ≡ n = cc in record { numeral = e; value = v; within = grind (arith, nat_tests) }
read_by text most n true false e f h = absurd cc
read_by text most n false b e f h = absurd cc

pub count_of-read : (text : List ℕ) (most n : ℕ) → count_of text most ≡ Ok n → IsRead text most n
unfolding count_of
count_of-read text most n h = read_by text most n (is_numeral text) (leb (digits_value 10 text) most) refl refl h

pub count_of-again : (text : List ℕ) (most n : ℕ) → most < 2 ^ 64 → count_of text most ≡ Ok n → count_of (decimal n) most ≡ Ok n
count_of-again text most n fits h = let r = count_of-read text most n h in count_of-decimal n most r.within (omega (arith, r.within))

own : IsNumeralModel (AllDigits 10) (digits_value 10)
own = record { to = λ ds h. h; from = λ ds h. h; same = λ ds h. refl }

one_digit : (text : List ℕ) → has_leading_zero text ≡ false → get_or text 0 0 ≡ 48 → 0 < length text → length text ≡ 1
one_digit text none zero_first some = grind (arith, nat_tests)

numeral-parts : (text : List ℕ) → is_numeral text ≡ true → (0 < length text) × (are_digits text ≡ true)
numeral-parts text h = grind (arith, nat_tests)

-- a count without leading zeros is printed as it was read
pub decimal-count : (text : List ℕ) (most n : ℕ) → most < 2 ^ 64 → count_of text most ≡ Ok n → has_leading_zero text ≡ false → decimal n ≡ text
decimal-count text most n fits h none =
    let r = count_of-read text most n h in
    let p = numeral-parts text r.numeral in
    ap decimal (sym r.value) ∙ decimal-digits_value own text (all_digits_are text p.1) p.0 (λ zero_first. one_digit text none zero_first p.0) (omega (arith, r.value, r.within))

-- ---- signed numbers

between_by : (text : List ℕ) (least most z v : ℤ) (a b c : Bool) → int_le least v ≡ b → int_le v most ≡ c
    → (let r : Result ℤ CountFault = cond a (cond (b && c) (Ok v) (Err count_faults.Over)) (Err count_faults.Bad) in r ≡ Ok z) → (least ≤ℤ z) × (z ≤ℤ most)
between_by text least most z v true true true f g h = let e : v ≡ z = cc in rw (← e) (grind (arith, ints), grind (arith, ints))
between_by text least most z v true true false f g h = absurd cc
between_by text least most z v true false c f g h = absurd cc
between_by text least most z v false b c f g h = absurd cc

pub signed_of-between : (text : List ℕ) (least most z : ℤ) → signed_of text least most ≡ Ok z → (least ≤ℤ z) × (z ≤ℤ most)
unfolding signed_of
signed_of-between text least most z h = between_by text least most z (signed_value text) (is_signed_numeral text) (int_le least (signed_value text)) (int_le (signed_value text) most) refl refl h

fits_between : (least most z : ℤ) → FitsSigned w64 least → FitsSigned w64 most → least ≤ℤ z → z ≤ℤ most → FitsSigned w64 z
fits_between least most z a b low high = search (rules, ints)

pub signed_of-again : (text : List ℕ) (least most z : ℤ) → FitsSigned w64 least → FitsSigned w64 most → signed_of text least most ≡ Ok z → signed_of (signed_decimal z) least most ≡ Ok z
signed_of-again text least most z a b h = let p = signed_of-between text least most z h in signed_of-decimal z least most (fits_between least most z a b p.0 p.1) p.0 p.1

-- ---- coordinates

-- the size of a coordinate is at most 2^30
abbrev IsSmall : Result ℕ NumFault → Type 0
IsSmall (Ok n) = n ≤ 2 ^ 30
IsSmall (Err e) = Unit {0}

small_by : (n : ℕ) (a b : Bool) → leb n (2 ^ 30) ≡ b → IsSmall (cond a (cond b (Ok n) (Err faults.Range)) (Err faults.NotWhole))
small_by n true true e = grind (arith, nat_tests)
small_by n true false e = tt
small_by n false b e = tt

whole_quotient-small : (top bottom : ℕ) → IsSmall (whole_quotient top bottom)
unfolding whole_quotient
whole_quotient-small top bottom = small_by (top / bottom) (eqb (top % bottom) 0) (leb (top / bottom) (2 ^ 30)) refl

bad_or : (b : Bool) (r : Result ℕ NumFault) → IsSmall r → IsSmall (cond b r (Err faults.Bad))
bad_or true r s = s
bad_or false r s = tt

size_spelled-small : (text : List ℕ) → IsSmall (size_spelled text)
unfolding size_spelled
size_spelled-small text = bad_or _ _ (whole_quotient-small _ _)

abbrev InRange : ℤ → Type 0
InRange z = (neg_ℤ (pos (2 ^ 30)) ≤ℤ z) × (z ≤ℤ pos (2 ^ 30))

signed_size-in : (negative : Bool) (n : ℕ) → n ≤ 2 ^ 30 → InRange (signed_size negative n)
signed_size-in true zero le = (search (rules, ints), search (rules, ints))
signed_size-in true (suc n) le = (omega (arith, ints), omega (arith, ints))
signed_size-in false n le = (omega (arith, ints), omega (arith, ints))

in_by : (negative : Bool) (r : Result ℕ NumFault) (z : ℤ) → IsSmall r → with_sign negative r ≡ Ok z → InRange z
in_by negative (Ok n) z s h = let e : signed_size negative n ≡ z = cc in rw (← e) (signed_size-in negative n s)
in_by negative (Err e) z s h = absurd cc

in_at : (a negative : Bool) (r : Result ℕ NumFault) (z : ℤ) → IsSmall r → (let c : Result ℤ NumFault = cond a (with_sign negative r) (Err faults.Bad) in c ≡ Ok z) → InRange z
in_at true negative r z s h = in_by negative r z s h
in_at false negative r z s h = absurd cc

pub coordinate_of-between : (text : List ℕ) (z : ℤ) → coordinate_of text ≡ Ok z → InRange z
unfolding coordinate_of
coordinate_of-between text z h = in_at (leb (length text) 40) (is_negative text) (size_spelled (without_sign text)) z (size_spelled-small (without_sign text)) h

pub coordinate_of-again : (text : List ℕ) (z : ℤ) → coordinate_of text ≡ Ok z → coordinate_of (signed_decimal z) ≡ Ok z
coordinate_of-again text z h = let p = coordinate_of-between text z h in coordinate_of-decimal z p.0 p.1
