-- One more digit of a scan, and tens.
use Rattle.std.proofs.Common.{◌≡◌, ℕ, zero, suc, ◌+◌, ◌-◌, ◌*◌, ◌^◌, ◌<◌, ◌≤◌, List, [], ◌∷◌, ◌++◌, length, get_or, take, drop, refl, sym, ap, ◌∙◌, arith, inl, inr}
use Rattle.std.specs.Char.{digit_value}
use Rattle.std.specs.Str.Parse.{digits_value}
use Rattle.std.proofs.lemmas.Bool.{cases_lt}
use Rattle.std.proofs.lemmas.List.{take_more, take_all, drop_all, length-append}
use Rattle.std.proofs.lemmas.Int.Digits.{digits_value_push}
use Rattle.std.proofs.lemmas.Nat.{pow-add}
use Rattle.std.proofs.Math.Nat.{pow-suc, mul-one, mul-le-mul_left}
use Rattle.oct_text.specs.Scan.{IsCapped, Scans}
use Rattle.oct_text.specs.declared.scan.Scan.{Scan}

pub capped-big : (n v d : ℕ) → 2 ^ 30 < v → IsCapped n v → IsCapped (n * 10 + d) v
capped-big n v d big h = record {
  exact = λ le. let same : v ≡ n = h.exact (omega arith) in absurd (omega arith);
  above = λ _. big;
}

small_is : (n v : ℕ) → v ≤ 2 ^ 30 → IsCapped n v → v ≡ n
small_is n v small h = elim (cases_lt (2 ^ 30) n) [ inl lt ↦ absurd (let big = h.above lt in omega (arith, big)) | inr le ↦ h.exact le ]

pub capped-small : (n v d : ℕ) → v ≤ 2 ^ 30 → IsCapped n v → IsCapped (n * 10 + d) (v * 10 + d)
capped-small n v d small h = let same : v ≡ n = small_is n v small h in record { exact = λ le. omega arith; above = λ gt. omega arith }

-- one more digit of those at the front of a text
pub capped_more : (text : List ℕ) (i v r : ℕ) → i < length text → IsCapped (digits_value 10 (take i text)) v → ((n : ℕ) → IsCapped n v → IsCapped (n * 10 + digit_value (get_or text i 0)) r)
    → IsCapped (digits_value 10 (take (i + 1) text)) r
capped_more text i v r lt h more = rw (take_more text i 0 lt, digits_value_push 10 (take i text) (get_or text i 0)) (more (digits_value 10 (take i text)) h)

pub scan_before : (place : ℕ) (seen : List ℕ) (b : ℕ) (s r : Scan) → Scans place seen s → 0 < s.left → r.left ≡ s.left - 1 → r.clean ≡ s.clean
    → ((n : ℕ) → IsCapped n s.value → IsCapped (n * 10 + digit_value b) r.value) → Scans place (seen ++ b ∷ []) r
scan_before place seen b s r h more left-is clean-is value-is =
    let len : length (seen ++ b ∷ []) ≡ length seen + 1 = length-append seen (b ∷ []) in
    let before : length seen < place = omega (arith, h.left) in
    let value = value-is (digits_value 10 (take place seen)) h.value in
    let all : take place (seen ++ b ∷ []) ≡ seen ++ b ∷ [] = take_all place (seen ++ b ∷ []) (omega arith) in
    let all_seen : take place seen ≡ seen = take_all place seen (omega arith) in
    let none : drop place (seen ++ b ∷ []) ≡ [] = drop_all place (seen ++ b ∷ []) (omega arith) in
    let none_seen : drop place seen ≡ [] = drop_all place seen (omega arith) in
    record {
      left = omega (arith, left-is, h.left, len);
      value = rw (all, digits_value_push 10 seen b) (rw all_seen at value);
      clean = rw (clean-is, h.clean, none, none_seen) refl;
    }

-- ---- tens

pub pow_there : (k : ℕ) → 0 < 10 ^ k
pow_there zero = omega arith
pow_there (suc k) = omega (arith, pow_there k, pow-suc 10 k)

pub ten_more : (n k v : ℕ) → v ≤ 2 ^ 30 → IsCapped (n * 10 ^ k) v → IsCapped (n * 10 ^ (k + 1)) (v * 10)
ten_more n k v small h =
    let same : v ≡ n * 10 ^ k = small_is (n * 10 ^ k) v small h in
    let more : n * 10 ^ (k + 1) ≡ n * 10 ^ k * 10 = ap (λ (x : ℕ). n * x) (pow-add 10 k 1) ∙ omega arith in
    record { exact = λ le. omega arith; above = λ gt. omega arith }

-- from 0 on nothing changes
pub ten_zero : (n i count : ℕ) → IsCapped (n * 10 ^ i) 0 → IsCapped (n * 10 ^ count) 0
ten_zero n i count h =
    let none : n * 10 ^ i ≡ 0 = elim (cases_lt (2 ^ 30) (n * 10 ^ i)) [ inl lt ↦ absurd (let big = h.above lt in omega (arith, big)) | inr le ↦ sym (h.exact le) ] in
    let zero_n : n ≡ 0 = elim (cases_lt 0 n) [ inl some ↦ absurd (omega (arith, none, pow_there i, mul-le-mul_left (10 ^ i) some)) | inr le ↦ omega (arith, le) ] in
    rw zero_n (record { exact = λ le. omega arith; above = λ lt. absurd (omega (arith, lt)) })

-- above 2^30 it stays above
pub ten_big : (n i count v : ℕ) → i ≤ count → 2 ^ 30 < v → IsCapped (n * 10 ^ i) v → IsCapped (n * 10 ^ count) v
ten_big n i count v le big h =
    let above : 2 ^ 30 < n * 10 ^ i = elim (cases_lt (2 ^ 30) (n * 10 ^ i)) [ inl lt ↦ lt | inr small ↦ absurd (let same = h.exact small in omega (arith, same)) ] in
    let split : 10 ^ count ≡ 10 ^ i * 10 ^ (count - i) = ap (λ (x : ℕ). 10 ^ x) (omega arith) ∙ pow-add 10 i (count - i) in
    let grown : n * 10 ^ count ≡ n * 10 ^ i * 10 ^ (count - i) = ap (λ (x : ℕ). n * x) split ∙ omega arith in
    let ge : n * 10 ^ i * 1 ≤ n * 10 ^ i * 10 ^ (count - i) = mul-le-mul_left (n * 10 ^ i) (pow_there (count - i)) in
    let bigger : 2 ^ 30 < n * 10 ^ count = omega (arith, above, grown, ge) in
    record { exact = λ small. absurd (omega (arith, bigger, small)); above = λ _. big }

pub ten_none : (n v : ℕ) → IsCapped n v → IsCapped (n * 10 ^ 0) v
ten_none n v h = rw mul-one h
