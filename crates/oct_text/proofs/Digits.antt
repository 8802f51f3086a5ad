-- Digits, one after another.
use Rattle.std.proofs.Common.{◌≡◌, ℕ, ◌+◌, ◌-◌, ◌*◌, ◌<◌, ◌≤◌, true, false, List, [], ◌∷◌, length, get_or, drop, min, refl, arith, drop-cons, add-one, inl, inr}
use Rattle.std.specs.Char.{digit_value}
use Rattle.std.specs.Str.Parse.{digits_value_after}
use Rattle.std.proofs.lemmas.Bool.{cases_lt}
use Rattle.std.proofs.lemmas.List.Folds.{list_all_at}
use Rattle.std.proofs.lemmas.Bool.Decides.{nat_tests}
use Rattle.oct_text.specs.Numbers.{is_digit, are_digits}

pub digit_value-digit : (b : ℕ) → is_digit b ≡ true → digit_value b ≡ b - 48
digit_value-digit b h = grind (arith, nat_tests)

pub digit-at : (xs : List ℕ) (i : ℕ) → are_digits xs ≡ true → i < length xs → is_digit (get_or xs i 0) ≡ true
digit-at xs i h lt =
    elim (is_digit (get_or xs i 0)) as (λ b. is_digit (get_or xs i 0) ≡ b → is_digit (get_or xs i 0) ≡ true) [ true ↦ λ e. e | false ↦ λ e. absurd (let bad = list_all_at is_digit xs i 0 lt e in cc) ] refl

pub after-ge : (n : ℕ) (ds : List ℕ) → n ≤ digits_value_after 10 n ds
after-ge n [] = omega arith
after-ge n (d ∷ ds) = omega (arith, after-ge (n * 10 + digit_value d) ds)

pub after-drop : (n i : ℕ) (ds : List ℕ) → i < length ds → digits_value_after 10 n (drop i ds) ≡ digits_value_after 10 (n * 10 + digit_value (get_or ds i 0)) (drop (i + 1) ds)
after-drop n i ds lt = rw (add-one, drop-cons ds i 0 lt) refl

pub min_after : (n : ℕ) (ds : List ℕ) → min (digits_value_after 10 (min n 1000) ds) 1000 ≡ min (digits_value_after 10 n ds) 1000
min_after n ds =
    elim (cases_lt 1000 n) [
      | inl lt ↦ let big : min n 1000 ≡ 1000 = omega arith in rw big (omega (arith, after-ge 1000 ds, after-ge n ds))
      | inr le ↦ let small : min n 1000 ≡ n = omega arith in rw small refl
    ]

pub digit-small : (b : ℕ) → is_digit b ≡ true → b ≤ 57
digit-small b h = grind (arith, nat_tests)
