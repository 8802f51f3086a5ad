-- A coordinate lies from -2^30 to 2^30, so it fits 32 bits.
use Rattle.std.proofs.Common.{◌≡◌, ℕ, ◌+◌, ◌≤◌, ◌^◌, Bool, true, false, cond, List, length, Result, Ok, Err, refl, subst, arith, SFits, w32}
use Rattle.std.specs.Prelude.{ℤ, pos, negsuc, neg_ℤ, ◌≤ℤ◌, nat_le, ◌%◌, ◌/◌, ◌==◌, ◌&&◌, ◌*◌, ◌++◌, if◌then◌else◌}
use Rattle.std.proofs.lemmas.Bool.{leb-true}
use Rattle.std.proofs.lemmas.Int.{ints}
use Rattle.oct_text.specs.declared.numbers.NumFault.{NumFault}
use Rattle.oct_text.specs.declared.numbers.NumFault.TheVariants as faults
use Rattle.oct_text.specs.Numbers.{whole_quotient, size_spelled, coordinate_of, with_sign, signed_size, is_negative, without_sign, scaled, mantissa_fits, exponent_fits, is_e, is_point}
use Rattle.std.specs.Str.Parse.{digits_value}
use Rattle.std.specs.List.{before_first, after_first, list_any}

abbrev IsSmall : Result ℕ NumFault → Type 0
IsSmall (Ok n) = n ≤ 2 ^ 30
IsSmall (Err e) = Unit {0}

small_where : (c : Bool) (r : Result ℕ NumFault) (e : NumFault) → (c ≡ true → IsSmall r) → IsSmall (cond c r (Err e))
small_where true r e h = h refl
small_where false r e h = tt

quotient-small : (top bottom : ℕ) → IsSmall (whole_quotient top bottom)
unfolding whole_quotient
quotient-small top bottom =
    small_where (top % bottom == 0) _ _ (λ whole.
    small_where (nat_le (top / bottom) (2 ^ 30)) (Ok (top / bottom)) faults.Range (λ h. leb-true (top / bottom) (2 ^ 30) h))

scaled-small : (mantissa exponent : List ℕ) → IsSmall (scaled mantissa exponent)
scaled-small mantissa exponent =
    let size = digits_value 10 (without_sign exponent) in
    quotient-small (digits_value 10 (before_first is_point mantissa ++ after_first is_point mantissa) * 10 ^ (if is_negative exponent then 0 else size))
    (10 ^ (length (after_first is_point mantissa) + (if is_negative exponent then size else 0)))

size-small : (text : List ℕ) → IsSmall (size_spelled text)
unfolding size_spelled
size-small text =
    small_where (mantissa_fits (before_first is_e text) && (if list_any is_e text then exponent_fits (after_first is_e text) else true)) (scaled (before_first is_e text) (after_first is_e text)) faults.Bad
    (λ good. scaled-small (before_first is_e text) (after_first is_e text))

-- from -2^30 to 2^30
abbrev IsWithin : ℤ → Type 0
IsWithin z = (neg_ℤ (pos (2 ^ 30)) ≤ℤ z) × (z ≤ℤ pos (2 ^ 30))

signed-within : (negative : Bool) (n : ℕ) → n ≤ 2 ^ 30 → IsWithin (signed_size negative n)
signed-within true n le = (omega (arith, ints), omega (arith, ints))
signed-within false n le = (omega (arith, ints), omega (arith, ints))

signed-small : (negative : Bool) (r : Result ℕ NumFault) (z : ℤ) → IsSmall r → with_sign negative r ≡ Ok z → IsWithin z
signed-small negative (Ok n) z small e = let is : signed_size negative n ≡ z = cc in subst IsWithin is (signed-within negative n small)
signed-small negative (Err f) z small e = absurd cc

where_short : (c negative : Bool) (r : Result ℕ NumFault) (z : ℤ) → IsSmall r → cond c (with_sign negative r) (Err faults.Bad) ≡ Ok z → IsWithin z
where_short true negative r z small e = signed-small negative r z small e
where_short false negative r z small e = absurd cc

pub coordinate-within : (text : List ℕ) (z : ℤ) → coordinate_of text ≡ Ok z → IsWithin z
unfolding coordinate_of
coordinate-within text z e = where_short (nat_le (length text) 40) (is_negative text) (size_spelled (without_sign text)) z (size-small (without_sign text)) e

small-fits : (z : ℤ) → IsWithin z → SFits w32 z
small-fits (pos n) h = record { sfits = omega (arith, ints, h.1) }
small-fits (negsuc n) h = record { sfits = omega (arith, ints, h.0) }

pub whole_fits : (text : List ℕ) (z : ℤ) → coordinate_of text ≡ Ok z → SFits w32 z
whole_fits text z e = small-fits z (coordinate-within text z e)
