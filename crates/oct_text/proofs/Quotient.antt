-- A number by its digits and its place: the whole part, and what is left.
use Rattle.std.proofs.Common.{◌≡◌, ℕ, zero, suc, ◌+◌, ◌-◌, ◌*◌, ◌^◌, ◌<◌, ◌≤◌, Bool, true, false, cond, eqb, leb, List, [], ◌∷◌, ◌++◌, length, take, drop, min, Result, Ok, Err, refl, sym, ap, ◌∙◌, arith, inl, inr}
use Rattle.std.specs.Prelude.{◌&&◌}
use Rattle.std.specs.List.{list_all}
use Rattle.std.specs.Char.{digit_value}
use Rattle.std.specs.Str.Parse.{digits_value, digits_value_after, AllDigits}
use Rattle.std.proofs.lemmas.Bool.{cases_lt, eq-eqb, ne_eqb, lt-leb}
use Rattle.std.proofs.lemmas.Bool.Decides.{nat_tests}
use Rattle.std.proofs.lemmas.List.{take_all, drop_all, length-drop, take-append-drop}
use Rattle.std.proofs.lemmas.List.Folds.{list_all-append}
use Rattle.std.proofs.lemmas.Nat.{pow-add, mod-mul-add, div-mul-add}
use Rattle.std.proofs.lemmas.Int.Digits.{digits_value-lt}
use Rattle.std.proofs.Math.Nat.{pow-suc, mul-one, mul-le-mul_right, mul-le-mul_left}
use Rattle.oct_text.specs.Numbers.{is_digit, are_digits, whole_quotient}
use Rattle.oct_text.specs.declared.numbers.NumFault.{NumFault}
use Rattle.oct_text.specs.declared.numbers.NumFault.TheVariants as faults
use Rattle.oct_text.specs.Scan.{IsCapped, is_zero}
use Rattle.oct_text.proofs.Digits.{digit_value-digit}
use Rattle.oct_text.proofs.ScanLemmas.{pow_there}

pub both : (a b : Bool) → (a && b) ≡ true → (a ≡ true) × (b ≡ true)
both true b h = (refl, h)
both false b h = absurd cc

value_after : (n : ℕ) (ys : List ℕ) → digits_value_after 10 n ys ≡ n * 10 ^ length ys + digits_value 10 ys
value_after n [] = rw mul-one (omega arith)
value_after n (y ∷ ys) =
    let h = value_after (n * 10 + digit_value y) ys in
    let k = value_after (0 * 10 + digit_value y) ys in
    let p : 10 ^ suc (length ys) ≡ 10 ^ length ys * 10 = pow-suc 10 (length ys) in
    let q : n * 10 ^ suc (length ys) ≡ n * (10 ^ length ys * 10) = ap (λ (x : ℕ). n * x) p in
    omega (arith, h, k, q)

pub value-append : (xs ys : List ℕ) → digits_value 10 (xs ++ ys) ≡ digits_value 10 xs * 10 ^ length ys + digits_value 10 ys
value-append xs ys = after_append 0 xs ys ∙ value_after (digits_value 10 xs) ys
  where
    after_append : (n : ℕ) (xs ys : List ℕ) → digits_value_after 10 n (xs ++ ys) ≡ digits_value_after 10 (digits_value_after 10 n xs) ys
    after_append n [] ys = refl
    after_append n (x ∷ xs) ys = after_append (n * 10 + digit_value x) xs ys

pub all_digits_are : (xs : List ℕ) → are_digits xs ≡ true → AllDigits 10 xs
all_digits_are [] h = tt
all_digits_are (x ∷ xs) h =
    let p = both (is_digit x) (are_digits xs) h in
    (rw (digit_value-digit x p.0) (grind (arith, nat_tests)), all_digits_are xs p.1)

pub value-below : (xs : List ℕ) → are_digits xs ≡ true → digits_value 10 xs < 10 ^ length xs
value-below xs h = digits_value-lt 10 xs (all_digits_are xs h)

abbrev pub fit : ℕ → Result ℕ NumFault
fit n = cond (leb n (2 ^ 30)) (Ok n) (Err faults.Range)

times_lt : (b d c : ℕ) → 0 < c → b < d → b * c < d * c
times_lt b d c some lt = let le : suc b * c ≤ d * c = mul-le-mul_right c lt in omega (arith, le)

pub pow_le : (i j : ℕ) → i ≤ j → 10 ^ i ≤ 10 ^ j
pow_le i j le =
    let split : 10 ^ j ≡ 10 ^ i * 10 ^ (j - i) = ap (λ (x : ℕ). 10 ^ x) (omega arith) ∙ pow-add 10 i (j - i) in
    omega (arith, split, mul-le-mul_left (10 ^ i) (pow_there (j - i)))

zero_times : (b c : ℕ) → 0 < c → eqb (b * c) 0 ≡ eqb b 0
zero_times zero c some = eq-eqb (0 * c) 0 (omega arith)
zero_times (suc b) c some = ne_eqb (suc b * c) 0 (let le : 1 * c ≤ suc b * c = mul-le-mul_right c (omega arith) in omega (arith, le)) ∙ sym (ne_eqb (suc b) 0 (omega arith))

-- a quotient by its whole part and what is left
pub quotient_at : (a b d c : ℕ) → 0 < c → b < d → whole_quotient ((a * d + b) * c) (d * c) ≡ cond (eqb b 0) (fit a) (Err faults.NotWhole)
unfolding whole_quotient
quotient_at a b d c some lt =
    let top : (a * d + b) * c ≡ a * (d * c) + b * c = omega arith in
    let less : b * c < d * c = times_lt b d c some lt in
    rw (top, mod-mul-add a (d * c) (b * c) less, div-mul-add a (d * c) (b * c) less, zero_times b c some) refl

pub whole_product : (a d : ℕ) → 0 < d → whole_quotient (a * d) d ≡ fit a
whole_product a d some =
    let h = quotient_at a 0 d 1 (omega arith) some in
    let top : (a * d + 0) * 1 ≡ a * d = omega arith in
    let bottom : d * 1 ≡ d = omega arith in
    ap (λ (x : ℕ). whole_quotient x d) (sym top) ∙ ap (λ (x : ℕ). whole_quotient ((a * d + 0) * 1) x) (sym bottom) ∙ h

-- the digits behind the place are all 0 exactly where their number is 0
zero_first : (x : ℕ) (xs : List ℕ) → is_digit x ≡ true → eqb (digits_value 10 xs) 0 ≡ list_all is_zero xs → eqb (digits_value 10 (x ∷ xs)) 0 ≡ list_all is_zero (x ∷ xs)
zero_first x xs digit later =
    let value : digits_value 10 (x ∷ xs) ≡ digit_value x * 10 ^ length xs + digits_value 10 xs = value_after (0 * 10 + digit_value x) xs ∙ omega arith in
    let d = digit_value-digit x digit in
    elim (cases_lt 48 x) [
      | inl lt ↦
          let not_zero : eqb x 48 ≡ false = ne_eqb x 48 (omega arith) in
          let some : 1 * 10 ^ length xs ≤ digit_value x * 10 ^ length xs = mul-le-mul_right (10 ^ length xs) (omega (arith, d)) in
          ne_eqb (digits_value 10 (x ∷ xs)) 0 (omega (arith, value, some, pow_there (length xs))) ∙ sym (rw not_zero refl)
      | inr le ↦
          let is : x ≡ 48 = grind (arith, nat_tests) in
          let zero_d : digit_value x ≡ 0 = omega (arith, d) in
          let same : digits_value 10 (x ∷ xs) ≡ digits_value 10 xs = value ∙ rw zero_d (omega arith) in
          ap (λ (v : ℕ). eqb v 0) same ∙ later ∙ sym (rw is refl)
    ]

pub zero_value : (xs : List ℕ) → are_digits xs ≡ true → eqb (digits_value 10 xs) 0 ≡ list_all is_zero xs
zero_value [] h = refl
zero_value (x ∷ xs) h = let p = both (is_digit x) (are_digits xs) h in zero_first x xs p.0 (zero_value xs p.1)

digits-split : (k : ℕ) (xs : List ℕ) → are_digits xs ≡ true → (are_digits (take k xs) ≡ true) × (are_digits (drop k xs) ≡ true)
digits-split k xs h = both (are_digits (take k xs)) (are_digits (drop k xs)) (sym (list_all-append is_digit (take k xs) (drop k xs)) ∙ ap are_digits (take-append-drop k xs) ∙ h)

zero_by : (a c : ℕ) → a ≡ 0 → a * c ≡ 0
zero_by a c e = rw e (omega arith)

-- a number with its place before the last digit, or behind it
pub placed_before : (ds : List ℕ) (up down place : ℕ) → are_digits ds ≡ true → up ≤ down → place ≡ length ds + up - down
    → whole_quotient (digits_value 10 ds * 10 ^ up) (10 ^ down) ≡ cond (list_all is_zero (drop place ds)) (fit (digits_value 10 (take place ds))) (Err faults.NotWhole)
placed_before ds up down place digits le place-is =
    let k = down - up in
    let a = digits_value 10 (take place ds) in
    let b = digits_value 10 (drop place ds) in
    let parts = digits-split place ds digits in
    let value : digits_value 10 ds ≡ a * 10 ^ length (drop place ds) + b = ap (digits_value 10) (sym (take-append-drop place ds)) ∙ value-append (take place ds) (drop place ds) in
    let below : b < 10 ^ length (drop place ds) = value-below (drop place ds) parts.1 in
    let bottom : 10 ^ down ≡ 10 ^ k * 10 ^ up = ap (λ (x : ℕ). 10 ^ x) (omega arith) ∙ pow-add 10 k up in
    let len = length-drop place ds in
    let shorter : b < 10 ^ k = omega (arith, below, pow_le (length (drop place ds)) k (omega (arith, len))) in
    let whole : digits_value 10 ds ≡ a * 10 ^ k + b =
    elim (cases_lt (length ds) k) [
      | inl lt ↦ let none : place ≡ 0 = omega (arith, place-is) in let nothing : a ≡ 0 = rw none refl in
          omega (arith, value, zero_by a (10 ^ k) nothing, zero_by a (10 ^ length (drop place ds)) nothing)
      | inr ge ↦ let same : length (drop place ds) ≡ k = omega (arith, len) in rw (← same) value
    ] in
    ap (λ (x : ℕ). whole_quotient (x * 10 ^ up) (10 ^ down)) whole ∙ ap (whole_quotient ((a * 10 ^ k + b) * 10 ^ up)) bottom
    ∙ quotient_at a b (10 ^ k) (10 ^ up) (pow_there up) shorter ∙ ap (λ (x : Bool). cond x (fit a) (Err faults.NotWhole)) (zero_value (drop place ds) parts.1)

-- a number with its place behind the last digit
pub placed_behind : (ds : List ℕ) (up down place : ℕ) → down ≤ up → place ≡ length ds + up - down
    → whole_quotient (digits_value 10 ds * 10 ^ up) (10 ^ down) ≡ fit (digits_value 10 (take place ds) * 10 ^ (place - length ds))
placed_behind ds up down place le place-is =
    let left : place - length ds ≡ up - down = omega arith in
    let all : take place ds ≡ ds = take_all place ds (omega arith) in
    let split : 10 ^ up ≡ 10 ^ (up - down) * 10 ^ down = ap (λ (x : ℕ). 10 ^ x) (omega arith) ∙ pow-add 10 (up - down) down in
    let top : digits_value 10 ds * 10 ^ up ≡ digits_value 10 ds * 10 ^ (up - down) * 10 ^ down = ap (λ (x : ℕ). digits_value 10 ds * x) split ∙ omega arith in
    rw (all, left) (ap (λ (x : ℕ). whole_quotient x (10 ^ down)) top ∙ whole_product (digits_value 10 ds * 10 ^ (up - down)) (10 ^ down) (pow_there down))

-- the number that a scan found
pub placed_at : (ds : List ℕ) (up down place left v : ℕ) (clean : Bool) → are_digits ds ≡ true → place ≡ length ds + up - down → left ≡ place - length ds
    → clean ≡ list_all is_zero (drop place ds) → IsCapped (digits_value 10 (take place ds) * 10 ^ left) v
    → whole_quotient (digits_value 10 ds * 10 ^ up) (10 ^ down) ≡ cond clean (cond (leb v (2 ^ 30)) (Ok v) (Err faults.Range)) (Err faults.NotWhole)
placed_at ds up down place left v clean digits place-is left-is clean-is capped =
    let n = digits_value 10 (take place ds) * 10 ^ left in
    let fits : fit n ≡ cond (leb v (2 ^ 30)) (Ok v) (Err faults.Range) =
    elim (cases_lt (2 ^ 30) n) [
      | inl lt ↦ rw (lt-leb n (2 ^ 30) lt, lt-leb v (2 ^ 30) (capped.above lt)) refl
      | inr le ↦ let same : v ≡ n = capped.exact le in rw same refl
    ] in
    elim (cases_lt down up) [
      | inl lt ↦
          let none : drop place ds ≡ [] = drop_all place ds (omega arith) in
          let is_clean : clean ≡ true = clean-is ∙ rw none refl in
          placed_behind ds up down place (omega arith) place-is ∙ rw (is_clean, ← left-is) fits
      | inr le ↦
          let no_more : left ≡ 0 = omega (arith, left-is, place-is) in
          let same : digits_value 10 (take place ds) ≡ n = sym (rw no_more (mul-one (digits_value 10 (take place ds)))) in
          placed_before ds up down place digits le place-is ∙ rw (← clean-is) (ap (λ (x : ℕ). cond clean (fit x) (Err faults.NotWhole)) same ∙ ap (λ (r : Result ℕ NumFault). cond clean r (Err faults.NotWhole)) fits)
    ]

-- ---- exponents that are far away

far_down_at : (v bottom : ℕ) → v < bottom → whole_quotient v bottom ≡ cond (eqb v 0) (Ok 0) (Err faults.NotWhole)
far_down_at v bottom lt =
    let h = quotient_at 0 v bottom 1 (omega arith) lt in
    let top : (0 * bottom + v) * 1 ≡ v = omega arith in
    let under : bottom * 1 ≡ bottom = omega arith in
    ap (λ (x : ℕ). whole_quotient x bottom) (sym top) ∙ ap (λ (x : ℕ). whole_quotient ((0 * bottom + v) * 1) x) (sym under) ∙ h

-- far below the point it does not matter how far
pub far_down : (ds : List ℕ) (m n : ℕ) → are_digits ds ≡ true → length ds ≤ 40 → 40 ≤ m → 40 ≤ n
    → whole_quotient (digits_value 10 ds * 10 ^ 0) (10 ^ m) ≡ whole_quotient (digits_value 10 ds * 10 ^ 0) (10 ^ n)
far_down ds m n digits len hm hn =
    let below = value-below ds digits in
    let one : digits_value 10 ds * 10 ^ 0 ≡ digits_value 10 ds = omega arith in
    ap (λ (x : ℕ). whole_quotient x (10 ^ m)) one ∙ far_down_at (digits_value 10 ds) (10 ^ m) (omega (arith, below, pow_le (length ds) m (omega arith)))
    ∙ sym (ap (λ (x : ℕ). whole_quotient x (10 ^ n)) one ∙ far_down_at (digits_value 10 ds) (10 ^ n) (omega (arith, below, pow_le (length ds) n (omega arith))))

far_fit : (v k : ℕ) → 60 ≤ k → fit (v * 10 ^ k) ≡ cond (eqb v 0) (Ok 0) (Err faults.Range)
far_fit zero k far = rw (zero_by 0 (10 ^ k) refl) refl
far_fit (suc v) k far =
    let big : 10 ^ 60 ≤ 10 ^ k = pow_le 60 k far in
    let some : 1 * 10 ^ k ≤ suc v * 10 ^ k = mul-le-mul_right (10 ^ k) (omega arith) in
    let not_zero : eqb (suc v) 0 ≡ false = ne_eqb (suc v) 0 (omega arith) in
    rw (lt-leb (suc v * 10 ^ k) (2 ^ 30) (omega (arith, big, some)), not_zero) refl

far_up_at : (v up down : ℕ) → down + 60 ≤ up → whole_quotient (v * 10 ^ up) (10 ^ down) ≡ cond (eqb v 0) (Ok 0) (Err faults.Range)
far_up_at v up down far =
    let split : 10 ^ up ≡ 10 ^ (up - down) * 10 ^ down = ap (λ (x : ℕ). 10 ^ x) (omega arith) ∙ pow-add 10 (up - down) down in
    let top : v * 10 ^ up ≡ v * 10 ^ (up - down) * 10 ^ down = ap (λ (x : ℕ). v * x) split ∙ omega arith in
    ap (λ (x : ℕ). whole_quotient x (10 ^ down)) top ∙ whole_product (v * 10 ^ (up - down)) (10 ^ down) (pow_there down) ∙ far_fit v (up - down) (omega arith)

-- far above it neither
pub far_up : (v down m n : ℕ) → down + 60 ≤ m → down + 60 ≤ n → whole_quotient (v * 10 ^ m) (10 ^ down) ≡ whole_quotient (v * 10 ^ n) (10 ^ down)
far_up v down m n hm hn = far_up_at v m down hm ∙ sym (far_up_at v n down hn)

pub digits-joined : (xs ys : List ℕ) → are_digits xs ≡ true → are_digits ys ≡ true → are_digits (xs ++ ys) ≡ true
digits-joined xs ys h k = list_all-append is_digit xs ys ∙ rw (h, k) refl

capped_self : (n : ℕ) → IsCapped n n
capped_self n = record { exact = λ le. refl; above = λ lt. lt }

-- where a digit behind the place is not 0
pub not_placed : (ds : List ℕ) (up down place : ℕ) → are_digits ds ≡ true → place ≡ length ds + up - down → list_all is_zero (drop place ds) ≡ false
    → whole_quotient (digits_value 10 ds * 10 ^ up) (10 ^ down) ≡ Err faults.NotWhole
not_placed ds up down place digits place-is dirty =
    placed_at ds up down place (place - length ds) (digits_value 10 (take place ds) * 10 ^ (place - length ds)) (list_all is_zero (drop place ds)) digits place-is refl refl (capped_self _) ∙ rw dirty refl

-- an exponent of 1000 does for those that are larger
pub cap_down : (ds : List ℕ) (size f : ℕ) → are_digits ds ≡ true → length ds ≤ 40 → whole_quotient (digits_value 10 ds * 10 ^ 0) (10 ^ (f + min size 1000)) ≡ whole_quotient (digits_value 10 ds * 10 ^ 0) (10 ^ (f + size))
cap_down ds size f digits len =
    elim (cases_lt 1000 size) [
      | inl lt ↦ far_down ds (f + min size 1000) (f + size) digits len (omega arith) (omega arith)
      | inr le ↦ let same : min size 1000 ≡ size = omega arith in rw same refl
    ]

pub cap_up : (v size f : ℕ) → f ≤ 40 → whole_quotient (v * 10 ^ min size 1000) (10 ^ (f + 0)) ≡ whole_quotient (v * 10 ^ size) (10 ^ (f + 0))
cap_up v size f le =
    elim (cases_lt 1000 size) [
      | inl lt ↦ far_up v (f + 0) (min size 1000) size (omega arith) (omega arith)
      | inr small ↦ let same : min size 1000 ≡ size = omega arith in rw same refl
    ]
