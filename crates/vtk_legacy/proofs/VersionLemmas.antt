-- Numbers of at most three digits.
use Rattle.std.proofs.Common.{◌≡◌, ℕ, ◌+◌, ◌*◌, ◌≤◌, Bool, true, false, cond, List, [], ◌∷◌, length, Result, Ok, Err, refl, arith}
use Rattle.std.specs.Prelude.{◌&&◌, nat_le, nat_lt}
use Rattle.std.specs.Char.{digit_value}
use Rattle.std.specs.Str.Parse.{digits_value}
use Rattle.std.proofs.lemmas.Bool.{le-leb}
use Rattle.std.proofs.lemmas.Bool.Decides.{nat_tests}
use Rattle.oct_text.specs.Numbers.{is_digit, are_digits, count_of}
use Rattle.oct_text.specs.declared.numbers.CountFault.{CountFault}
use Rattle.oct_text.specs.declared.numbers.CountFault.TheVariants as count_faults
use Rattle.vtk_legacy.proofs.WordLemmas.{and_false}
use Rattle.vtk_legacy.specs.Version.{is_short_number}

digit-below : (b : ℕ) → is_digit b ≡ true → digit_value b ≤ 9
digit-below b h = grind (arith, nat_tests)

both : (a b : Bool) → (a && b) ≡ true → (a ≡ true) × (b ≡ true)
both true b h = (refl, h)
both false b h = absurd cc

short-below : (text : List ℕ) → length text ≤ 3 → are_digits text ≡ true → digits_value 10 text ≤ 999
short-below [] le h = omega arith
short-below (a ∷ []) le h =
    let x = both (is_digit a) true h in
    omega (arith, digit-below a x.0)
short-below (a ∷ b ∷ []) le h =
    let x = both (is_digit a) (is_digit b && true) h in
    let y = both (is_digit b) true x.1 in
    omega (arith, digit-below a x.0, digit-below b y.0)
short-below (a ∷ b ∷ d ∷ []) le h =
    let x = both (is_digit a) (is_digit b && (is_digit d && true)) h in
    let y = both (is_digit b) (is_digit d && true) x.1 in
    let z = both (is_digit d) true y.1 in
    omega (arith, digit-below a x.0, digit-below b y.0, digit-below d z.0)
short-below (a ∷ b ∷ d ∷ e ∷ text) le h = absurd (omega arith)

by_tests : (digits some fits below : Bool) (n : ℕ) (e : CountFault) → fits ≡ true → (digits ≡ true → below ≡ true)
    → cond {A = Result ℕ CountFault} (some && fits && digits) (cond {A = Result ℕ CountFault} below (Ok n) (Err count_faults.Over)) (Err count_faults.Bad) ≡ Err e → (short : Bool) → (some && short && digits) ≡ false
by_tests false some fits below n e f b h short = and_false (some && short)
by_tests true false fits below n e f b h short = refl
by_tests true true fits below n e f b h short = absurd (let g = rw (f, b refl) at h in cc)

-- a text of at most three bytes that is no count up to 999 is no short number
pub not_short : (text : List ℕ) (e : CountFault) → length text ≤ 3 → count_of text 999 ≡ Err e → is_short_number text ≡ false
unfolding count_of
not_short text e le h =
    by_tests (are_digits text) (nat_lt 0 (length text)) (nat_le (length text) 40) (nat_le (digits_value 10 text) 999) (digits_value 10 text) e (le-leb (length text) 40 (omega arith))
    (λ d. le-leb (digits_value 10 text) 999 (short-below text le d)) h (nat_le (length text) 3)
