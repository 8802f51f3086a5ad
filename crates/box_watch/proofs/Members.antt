-- What is in one ascending list without another.
use Rattle.std.proofs.Common.{◌≡◌, ℕ, Bool, true, false, not, ◌||◌, inl, inr, ◌⊎◌, List, [], ◌∷◌, Contains, refl, sym, ap, ◌∙◌}
use Rattle.std.specs.Prelude.{◌==◌}
use Rattle.std.specs.List.Sorted.{IsStrictlyIncreasing}
use Rattle.std.proofs.lemmas.Bool.{true≢false, false≢true, eqb-true, eq-eqb}
use Rattle.std.proofs.lemmas.List.Kept.{IsStrictlyIncreasing-filter}
use Rattle.mesh_base.proofs.Ascending.{In, In-from_Contains, Contains-from_In, In-filter, filter-In}
use Rattle.box_watch.specs.Lists.{has, without}

first-or : (x v : ℕ) (xs : List ℕ) (b : Bool) → (x == v) ≡ b → (has xs v ≡ true → In xs v) → (b || has xs v) ≡ true → In (x ∷ xs) v
first-or x v xs true is more h = inl (eqb-true x v is)
first-or x v xs false is more h = inr (more h)

pub In-has : (xs : List ℕ) (v : ℕ) → has xs v ≡ true → In xs v
In-has [] v e = absurd (false≢true e)
In-has (x ∷ xs) v e = first-or x v xs (x == v) refl (In-has xs v) e

right_true : (b c : Bool) → c ≡ true → (b || c) ≡ true
right_true true c e = refl
right_true false c e = e

pub has-In : (xs : List ℕ) (v : ℕ) → In xs v → has xs v ≡ true
has-In [] v h = absurd h
has-In (x ∷ xs) v (inl e) = ap (λ b. b || has xs v) (eq-eqb x v e)
has-In (x ∷ xs) v (inr h) = right_true (x == v) (has xs v) (has-In xs v h)

not_has : (b : Bool) → not b ≡ true → b ≡ false
not_has true e = absurd (false≢true e)
not_has false e = refl

pub without-parts : (xs ys : List ℕ) (v : ℕ) → Contains (without xs ys) v → Contains xs v × ¬ Contains ys v
without-parts xs ys v c =
    let m = In-filter (λ w. not (has ys w)) xs v (In-from_Contains (without xs ys) v c) in
    (Contains-from_In xs v m.1, λ d. true≢false (sym (has-In ys v (In-from_Contains ys v d)) ∙ not_has (has ys v) m.0))

-- each number is in the list, or it isn't
pub decide : (xs : List ℕ) (v : ℕ) → Contains xs v ⊎ ¬ Contains xs v
decide xs v = by (has xs v) refl
  where
    by : (b : Bool) → has xs v ≡ b → Contains xs v ⊎ ¬ Contains xs v
    by true e = inl (Contains-from_In xs v (In-has xs v e))
    by false e = inr (λ c. true≢false (sym (has-In xs v (In-from_Contains xs v c)) ∙ e))

pub has-false : (xs : List ℕ) (v : ℕ) → ¬ Contains xs v → has xs v ≡ false
has-false xs v n = by (has xs v) refl
  where
    by : (b : Bool) → has xs v ≡ b → b ≡ false
    by true e = absurd (n (Contains-from_In xs v (In-has xs v e)))
    by false e = refl

pub has-true : (xs : List ℕ) (v : ℕ) → Contains xs v → has xs v ≡ true
has-true xs v c = has-In xs v (In-from_Contains xs v c)

pub without-from : (xs ys : List ℕ) (v : ℕ) → Contains xs v → ¬ Contains ys v → Contains (without xs ys) v
without-from xs ys v c n =
    Contains-from_In (without xs ys) v (filter-In (λ w. not (has ys w)) xs v (ap not (has-false ys v n)) (In-from_Contains xs v c))

pub without-increasing : (xs ys : List ℕ) → IsStrictlyIncreasing xs → IsStrictlyIncreasing (without xs ys)
without-increasing xs ys a = IsStrictlyIncreasing-filter (λ w. not (has ys w)) xs a
