-- A number without its sign, by the place of its e.
use Rattle.std.proofs.Common.{◌≡◌, ℕ, suc, ◌+◌, ◌*◌, ◌<◌, Bool, true, false, cond, ltb, List, [], ◌∷◌, ◌++◌, length, take, drop, min, Result, Err, refl, sym, ap, ◌∙◌, arith, inl, inr}
use Rattle.std.specs.Prelude.{◌&&◌}
use Rattle.std.specs.List.{prefix_len, list_any, position_or_len, before_first, after_first}
use Rattle.std.proofs.lemmas.Bool.{cases_lt, lt-ltb, le-ltb, ltb-false}
use Rattle.std.specs.Str.Parse.{digits_value}
use Rattle.std.proofs.lemmas.List.{drop_all, drop-drop, length-drop, take_all, append-nil}
use Rattle.oct_text.specs.Numbers.{is_digit, are_digits, whole_quotient, is_e, is_point, is_negative, without_sign, mantissa_fits, exponent_fits, scaled, scaled_by, size_spelled}
use Rattle.oct_text.specs.Parts.{Says, IsMantissa, in_range}
use Rattle.oct_text.specs.Scan.{IsCapped}
use Rattle.oct_text.proofs.Quotient.{both, whole_product}
use Rattle.oct_text.proofs.PartsLemmas.{NoDigit, no_e, no_point, before-digits, after-digits, passing_in_front}
use Rattle.oct_text.specs.declared.numbers.NumFault.{NumFault}
use Rattle.oct_text.specs.declared.numbers.NumFault.TheVariants as faults

any_first : (x : ℕ) (xs : List ℕ) (b : Bool) → is_e x ≡ b → list_any is_e xs ≡ ltb (position_or_len is_e xs) (length xs) → list_any is_e (x ∷ xs) ≡ ltb (position_or_len is_e (x ∷ xs)) (length (x ∷ xs))
any_first x xs true e later = simp e (sym (lt-ltb 0 (suc (length xs)) (omega arith)))
any_first x xs false e later =
    let n = position_or_len is_e xs in
    let head : position_or_len is_e (x ∷ xs) ≡ 1 + n = simp e refl in
    let any : list_any is_e (x ∷ xs) ≡ list_any is_e xs = simp e refl in
    elim (cases_lt n (length xs)) [
      | inl lt ↦ any ∙ later ∙ lt-ltb n (length xs) lt ∙ sym (lt-ltb _ (suc (length xs)) (omega (arith, head)))
      | inr le ↦ any ∙ later ∙ le-ltb n (length xs) le ∙ sym (le-ltb _ (suc (length xs)) (omega (arith, head)))
    ]

any_place : (xs : List ℕ) → list_any is_e xs ≡ ltb (position_or_len is_e xs) (length xs)
any_place [] = refl
any_place (x ∷ xs) = any_first x xs (is_e x) refl (any_place xs)

abbrev size_where : List ℕ → ℕ → Result ℕ NumFault
size_where text at = cond (mantissa_fits (take at text) && cond (ltb at (length text)) (exponent_fits (drop (at + 1) text)) true) (scaled (take at text) (drop (at + 1) text)) (Err faults.Bad)

size_there : (text : List ℕ) → size_spelled text ≡ size_where text (position_or_len is_e text)
unfolding size_spelled
size_there text = ap (λ (b : Bool). cond (mantissa_fits (before_first is_e text) && cond b (exponent_fits (after_first is_e text)) true) (scaled (before_first is_e text) (after_first is_e text)) (Err faults.Bad)) (any_place text)

size_at : (text : List ℕ) (at : ℕ) (m x p : Bool) → at ≡ position_or_len is_e text → mantissa_fits (take at text) ≡ m → ltb at (length text) ≡ p → (p ≡ true → exponent_fits (drop (at + 1) text) ≡ x)
    → size_spelled text ≡ cond (m && cond p x true) (scaled (take at text) (drop (at + 1) text)) (Err faults.Bad)
size_at text at m x true at-is m-is p-is x-is = size_there text ∙ ap (size_where text) (sym at-is) ∙ rw (m-is, p-is, x-is refl) refl
size_at text at m x false at-is m-is p-is x-is = size_there text ∙ ap (size_where text) (sym at-is) ∙ rw (m-is, p-is) refl

spelled_as : (p : Bool) (text : List ℕ) (at : ℕ) (front back : List ℕ) (negative : Bool) (size : ℕ) (r : Result ℕ NumFault) → at ≡ position_or_len is_e text → mantissa_fits (take at text) ≡ true
    → ltb at (length text) ≡ p → Says p (drop (at + 1) text) negative size → front ≡ before_first is_point (take at text) → back ≡ after_first is_point (take at text)
    → ((n : ℕ) → size ≡ min n 1000 → r ≡ scaled_by (front ++ back) (length back) negative n) → r ≡ size_spelled text
spelled_as true text at front back negative size r at-is m-is p-is says front-is back-is r-is =
    r-is (digits_value 10 (without_sign (drop (at + 1) text))) (says.there refl).1
    ∙ rw (front-is, back-is, (says.there refl).0) (sym (size_at text at true true true at-is m-is p-is says.fits))
spelled_as false text at front back negative size r at-is m-is p-is says front-is back-is r-is =
    let nothing : drop (at + 1) text ≡ [] = drop_all (at + 1) text (omega (arith, ltb-false at (length text) p-is)) in
    let zero_size : digits_value 10 (without_sign (drop (at + 1) text)) ≡ 0 = ap (λ (x : List ℕ). digits_value 10 (without_sign x)) nothing in
    let no_sign : is_negative (drop (at + 1) text) ≡ false = ap is_negative nothing in
    r-is 0 (says.none refl).1
    ∙ rw (front-is, back-is, (says.none refl).0) (sym (size_at text at true true false at-is m-is p-is (λ e. absurd cc) ∙ rw (zero_size, no_sign) refl))

spelled : (text : List ℕ) (at : ℕ) (front back : List ℕ) (negative : Bool) (size : ℕ) (r : Result ℕ NumFault) → at ≡ position_or_len is_e text → mantissa_fits (take at text) ≡ true
    → Says (ltb at (length text)) (drop (at + 1) text) negative size → front ≡ before_first is_point (take at text) → back ≡ after_first is_point (take at text)
    → ((n : ℕ) → size ≡ min n 1000 → r ≡ scaled_by (front ++ back) (length back) negative n) → r ≡ size_spelled text
spelled text at front back negative size r at-is m-is says front-is back-is r-is = spelled_as (ltb at (length text)) text at front back negative size r at-is m-is refl says front-is back-is r-is

not_spelled : (text : List ℕ) (at : ℕ) → at ≡ position_or_len is_e text → ltb at (length text) ≡ true → exponent_fits (drop (at + 1) text) ≡ false → Err faults.Bad ≡ size_spelled text
not_spelled text at at-is there unfit =
    sym (size_at text at (mantissa_fits (take at text)) false true at-is refl there (λ e. unfit) ∙ by_mantissa (mantissa_fits (take at text)))
  where
    by_mantissa : (m : Bool) → cond (m && false) (scaled (take at text) (drop (at + 1) text)) (Err faults.Bad) ≡ Err faults.Bad
    by_mantissa true = refl
    by_mantissa false = refl

-- ---- by the parts

from_place : (text : List ℕ) (at : ℕ) → ltb 0 (length (drop at text)) ≡ ltb at (length text)
from_place text at =
    elim (cases_lt at (length text)) [
      | inl lt ↦ lt-ltb 0 (length (drop at text)) (omega (arith, length-drop at text)) ∙ sym (lt-ltb at (length text) lt)
      | inr le ↦ le-ltb 0 (length (drop at text)) (omega (arith, length-drop at text)) ∙ sym (le-ltb at (length text) le)
    ]

pub spelled_parts : (text front back rest : List ℕ) (negative : Bool) (size : ℕ) (r : Result ℕ NumFault) → IsMantissa text front back rest → Says (ltb 0 (length rest)) (drop 1 rest) negative size
    → ((n : ℕ) → size ≡ min n 1000 → r ≡ scaled_by (front ++ back) (length back) negative n) → r ≡ size_spelled text
spelled_parts text front back rest negative size r m says r-is =
    let at = position_or_len is_e text in
    let there : ltb 0 (length rest) ≡ ltb at (length text) = ap (λ (l : List ℕ). ltb 0 (length l)) m.from_e ∙ from_place text at in
    let behind : drop 1 rest ≡ drop (at + 1) text = ap (λ (l : List ℕ). drop 1 l) m.from_e ∙ drop-drop 1 at text in
    let says' : Says (ltb at (length text)) (drop (at + 1) text) negative size = rw (there, behind) at says in
    spelled text at front back negative size r refl m.fits says' m.before_point m.behind_point r-is

pub not_spelled_parts : (text front back rest : List ℕ) → IsMantissa text front back rest → ltb 0 (length rest) ≡ true → exponent_fits (drop 1 rest) ≡ false → Err faults.Bad ≡ size_spelled text
not_spelled_parts text front back rest m some unfit =
    let at = position_or_len is_e text in
    let there : ltb at (length text) ≡ true = sym (ap (λ (l : List ℕ). ltb 0 (length l)) m.from_e ∙ from_place text at) ∙ some in
    let behind : drop 1 rest ≡ drop (at + 1) text = ap (λ (l : List ℕ). drop 1 l) m.from_e ∙ drop-drop 1 at text in
    not_spelled text at refl there (rw behind at unfit)

-- ---- digits alone

none_among : (p : ℕ → Bool) (ds : List ℕ) → NoDigit p → are_digits ds ≡ true → (before_first p ds ≡ ds) × (after_first p ds ≡ [])
none_among p ds fails h = (
  ap (before_first p) (sym (append-nil ds)) ∙ before-digits p ds [] fails h ∙ append-nil ds,
  ap (after_first p) (sym (append-nil ds)) ∙ after-digits p ds [] fails h,
)

list_any-digits : (p : ℕ → Bool) (ds : List ℕ) → NoDigit p → are_digits ds ≡ true → list_any p ds ≡ false
list_any-digits p [] fails h = refl
list_any-digits p (d ∷ ds) fails h = let q = both (is_digit d) (are_digits ds) h in rw (fails d q.0) (list_any-digits p ds fails q.1)

pub size_spelled-digits : (n : ℕ) (ds : List ℕ) → 0 < length ds → are_digits ds ≡ true → digits_value 10 ds ≡ n → size_spelled ds ≡ in_range n
unfolding size_spelled
size_spelled-digits n ds there digits value-is =
    let e = none_among is_e ds no_e digits in
    let point = none_among is_point ds no_point digits in
    let any = list_any-digits is_e ds no_e digits in
    let some : ltb 0 (length ds + 0) ≡ true = lt-ltb 0 (length ds + 0) (omega (arith, there)) in
    let value : whole_quotient (n * 1) 1 ≡ in_range n = whole_product n 1 (omega arith) in
    let same : ds ++ [] ≡ ds = append-nil ds in
    rw (e.0, e.1, point.0, point.1, any) (rw (digits, some, same, value-is, value) refl)

-- where the digits at the front are all there is
pub spelled_plain : (text : List ℕ) (len v : ℕ) (r : Result ℕ NumFault) → len ≡ prefix_len is_digit text → len ≡ length text → 0 < len → IsCapped (digits_value 10 (take len text)) v
    → ((n : ℕ) → IsCapped n v → r ≡ in_range n) → r ≡ size_spelled text
spelled_plain text len v r len-is all some capped r-is =
    let whole : take len text ≡ text = take_all len text (omega (arith, all)) in
    let front : take (prefix_len is_digit text) text ≡ text = ap (λ (k : ℕ). take k text) (sym len-is) ∙ whole in
    let digits : are_digits text ≡ true = sym (ap are_digits front) ∙ (passing_in_front is_digit text).0 in
    r-is (digits_value 10 text) (rw whole at capped) ∙ sym (size_spelled-digits (digits_value 10 text) text (omega (arith, all, some)) digits refl)
