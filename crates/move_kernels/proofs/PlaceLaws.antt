-- lemmas on places and on rounded quotients
use Rattle.std.proofs.Common.{◌≡◌, ℕ, suc, ◌+◌, ◌*◌, ◌/◌, ◌^◌, ◌<◌, ◌≤◌, ℤ, pos, negsuc, neg_ℤ, ◌+ℤ◌, ◌-ℤ◌, ◌*ℤ◌, ◌<ℤ◌, ◌≤ℤ◌, w32, w64, List, [], ◌∷◌, ◌++◌, map, get_or, length, filter, fold, All, Bool, true, false, cond, Option, Some, None, sym, ap, ◌∙◌, arith, SomeIff}
use Rattle.std.proofs.lemmas.List.{map-append}
use Rattle.std.proofs.lemmas.List.FromFn.{get_or-range_with_len, length-range_with_len}
use Rattle.std.proofs.lemmas.List.Elements.{All-filter}
use Rattle.std.proofs.lemmas.Int.{ints, unsigned_abs-mul, to_z-of_z}
use Rattle.std.proofs.Math.Nat.{div-le_self, mul-le-mul_left, mul-le-mul_right}
use Rattle.std.specs.Int.RustNames.{unsigned_abs, FitsSigned}
use Rattle.std.specs.Int.{cast_signed, cast_unsigned}
use Rattle.std.specs.List.{range_with_len}
use Rattle.mesh_base.proofs.CellLists.{range-more}
use Rattle.mesh_base.specs.Place.{Place, IsCoordinate}
use Rattle.mesh_base.specs.Kernel.{floor_of, plus, mean}

-- places with the same coordinates
pub same_place : (p q : Place) → p.0 ≡ q.0 → p.1 ≡ q.1 → p.2 ≡ q.2 → p ≡ q
same_place p q x y z = grind arith

-- what an option holds
pub some_is : (o : Option Place) (P : Type 0) (p r : Place) → SomeIff o P p → o ≡ Some r → r ≡ p
some_is None P p r s e = absurd (cc)
some_is (Some q) P p r s e = grind arith

-- from -m to m
abbrev pub Within : ℕ → ℤ → Type 0
Within m z = (neg_ℤ (pos m) ≤ℤ z) × (z ≤ℤ pos m)

pub to_abs : (z : ℤ) (m : ℕ) → Within m z → unsigned_abs z ≤ m
to_abs (pos n) m h = omega (arith, ints, h.1)
to_abs (negsuc n) m h = omega (arith, ints, h.0)

from_abs : (z : ℤ) (m : ℕ) → unsigned_abs z ≤ m → Within m z
from_abs (pos n) m h = (omega (arith, ints), omega (arith, ints))
from_abs (negsuc n) m h = (omega (arith, ints), omega (arith, ints))

abs_product : (a b m n : ℕ) → a ≤ m → b ≤ n → a * b ≤ m * n
abs_product a b m n p q =
    let left = mul-le-mul_left a q in
    let right = mul-le-mul_right n p in
    omega (arith, left, right)

pub product_small : (a b : ℤ) (m n : ℕ) → Within m a → Within n b → Within (m * n) (a *ℤ b)
product_small a b m n p q = from_abs (a *ℤ b) (m * n) (rw (unsigned_abs-mul a b) (abs_product (unsigned_abs a) (unsigned_abs b) m n (to_abs a m p) (to_abs b n q)))

-- a quotient is no further from 0 than what is divided
pub floor_small : (a d : ℤ) (m : ℕ) → pos 0 <ℤ d → Within m a → Within m (floor_of a d)
floor_small (pos a) (pos d) m p h =
    let q = div-le_self a d in
    let k : a ≤ m = omega (arith, ints, h.1) in
    from_abs (pos (a / d)) m (omega (arith, q, k))
floor_small (negsuc a) (pos d) m p h =
    let q = div-le_self a d in
    let k : suc a ≤ m = omega (arith, ints, h.0) in
    from_abs (negsuc (a / d)) m (omega (arith, q, k))
floor_small (pos a) (negsuc d) m p h = absurd (omega (arith, ints))
floor_small (negsuc a) (negsuc d) m p h = absurd (omega (arith, ints))

-- a number of 32 bits, as one of 64
pub fits_wide : (z : ℤ) → FitsSigned w32 z → FitsSigned w64 z
fits_wide z f = record { sfits = omega (arith, f.sfits) }

pub widened : (z : ℤ) → FitsSigned w32 z → cast_signed w64 (cast_unsigned w64 (cast_signed w32 (cast_unsigned w32 z))) ≡ z
widened z f = ap (λ y. cast_signed w64 (cast_unsigned w64 y)) (to_z-of_z w32 z f) ∙ to_z-of_z w64 z (fits_wide z f)

within_32 : (z : ℤ) → FitsSigned w32 z → Within (2 ^ 31) z
within_32 (pos n) f = (omega (arith, ints), omega (arith, ints, f.sfits))
within_32 (negsuc n) f = (omega (arith, ints, f.sfits), omega (arith, ints))

pub added : (a b : ℤ) → FitsSigned w32 a → FitsSigned w32 b → cast_signed w64 (cast_unsigned w64 (a +ℤ b)) ≡ a +ℤ b
added a b f g =
    let p = within_32 a f in
    let q = within_32 b g in
    omega (arith, ints, p.0, p.1, q.0, q.1)

pub negated : (z : ℤ) → FitsSigned w32 z → cast_signed w64 (cast_unsigned w64 (pos 0 -ℤ z)) ≡ neg_ℤ z
negated z f = let p = within_32 z f in omega (arith, ints, p.0, p.1)

-- the sum, with one more place of the list
abbrev pub with_place : List Place → Place → ℕ → Place
with_place places s w = plus s (get_or places w (pos 0, pos 0, pos 0))

pub listed_more : (f : ℕ → Place) (n : ℕ) → map f (range_with_len 0 n) ++ f n ∷ [] ≡ map f (range_with_len 0 (n + 1))
listed_more f n =
    let e : 0 + n ≡ n = omega arith in
    let r : range_with_len 0 (suc n) ≡ range_with_len 0 n ++ n ∷ [] = range-more 0 n ∙ ap (λ k. range_with_len 0 n ++ k ∷ []) e in
    let s : suc n ≡ n + 1 = omega arith in
    sym (ap (λ k. map f (range_with_len 0 k)) (sym s) ∙ ap (map f) r ∙ map-append f (range_with_len 0 n) (n ∷ []))

-- one more coordinate in a sum of few
pub summed : (s p : ℤ) (i : ℕ) → i < 1000000 → Within (i * 2 ^ 30) s → IsCoordinate p → (cast_signed w64 (cast_unsigned w64 (s +ℤ cast_signed w64 (cast_unsigned w64 (cast_signed w32 (cast_unsigned w32 p))))) ≡ s +ℤ p) × Within ((i + 1) * 2 ^ 30) (cast_signed w64 (cast_unsigned w64 (s +ℤ cast_signed w64 (cast_unsigned w64 (cast_signed w32 (cast_unsigned w32 p))))))
summed s p i few h c =
    let e : cast_signed w64 (cast_unsigned w64 (s +ℤ cast_signed w64 (cast_unsigned w64 (cast_signed w32 (cast_unsigned w32 p))))) ≡ s +ℤ p = omega (arith, ints, h.0, h.1, c.0, c.1) in
    (e, rw e (omega (arith, ints, h.0, h.1, c.0, c.1), omega (arith, ints, h.0, h.1, c.0, c.1)))

-- a list of some of the numbers below n
pub some_within : (p : ℕ → Bool) (n : ℕ) → All (λ w. w < n) (filter p (range_with_len 0 n))
some_within p n = All-filter p (λ w. w < n) (range_with_len 0 n) (λ k d lt. let below = length-range_with_len 0 n in let is = get_or-range_with_len 0 n k d (omega arith) in omega (arith, is, below))

length-some : (p : ℕ → Bool) (xs : List ℕ) → length (filter p xs) ≤ length xs
length-some p [] = omega arith
length-some p (x ∷ xs) = by (p x) (length-some p xs)
  where
    by : (b : Bool) → length (filter p xs) ≤ length xs → length (cond b (x ∷ filter p xs) (filter p xs)) ≤ length (x ∷ xs)
    by true h = omega arith
    by false h = omega arith

pub few_some : (p : ℕ → Bool) (n : ℕ) → length (filter p (range_with_len 0 n)) ≤ n
few_some p n = let a = length-some p (range_with_len 0 n) in omega (arith, a, length-range_with_len 0 n)

-- the mean, from the sum and the number of places
pub mean_is : (ps : List Place) (s : Place) (n : ℤ) → s ≡ fold plus (pos 0, pos 0, pos 0) ps → n ≡ pos (length ps) → (floor_of s.0 n, floor_of s.1 n, floor_of s.2 n) ≡ mean ps
mean_is ps s n e l = ap (λ m. (floor_of s.0 m, floor_of s.1 m, floor_of s.2 m)) l ∙ ap (λ q. (floor_of q.0 (pos (length ps)), floor_of q.1 (pos (length ps)), floor_of q.2 (pos (length ps)))) e
