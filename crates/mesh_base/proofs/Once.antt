-- how often a number stands in a list
use Rattle.std.proofs.Common.{◌≡◌, ◌≢◌, ℕ, zero, suc, ◌+◌, ◌<◌, ◌≤◌, ◌⊎◌, inl, inr, Bool, cond, eqb, List, [], ◌∷◌, length, get_or, count_by, sum_by, remove, refl, sym, ap, subst, ◌∙◌, arith, add-one}
use Rattle.std.proofs.lemmas.Bool.{cases_eq}
use Rattle.std.proofs.lemmas.Bool.Decides.{nat_tests}
use Rattle.std.proofs.lemmas.List.Sums.{sum_by-cons, sum_by-remove}
use Rattle.std.specs.List.Sorted.{IsStrictlyIncreasing, IsNonDecreasing}
use Rattle.mesh_base.proofs.Ascending.{In, remove-In}

-- 1 where it is so
abbrev pub bit : Bool → ℕ
bit b = cond b 1 0

-- how often v stands in the list
abbrev pub times : List ℕ → ℕ → ℕ
times xs v = count_by (λ x. eqb x v) xs

pub times-cons : (x : ℕ) (xs : List ℕ) (v : ℕ) → times (x ∷ xs) v ≡ bit (eqb x v) + times xs v
times-cons x xs v = sum_by-cons (λ y. bit (eqb y v)) x xs

pub one_self : (v : ℕ) → bit (eqb v v) ≡ 1
one_self v = grind (arith, nat_tests)

same : (x v : ℕ) → x ≡ v → bit (eqb x v) ≡ 1
same x v e = grind (arith, nat_tests)

other : (x v : ℕ) → x ≢ v → bit (eqb x v) ≡ 0
other x v n = grind (arith, nat_tests)

pub times-In : (xs : List ℕ) (v : ℕ) → 0 < times xs v → In xs v
times-In [] v h = absurd (omega arith)
times-In (x ∷ xs) v h = by (cases_eq x v) (times-In xs v)
  where
    by : (x ≡ v) ⊎ (x ≢ v) → (0 < times xs v → In xs v) → In (x ∷ xs) v
    by (inl e) rest = inl e
    by (inr n) rest = let z : bit (eqb x v) ≡ 0 = other x v n in inr (rest (omega (arith, times-cons x xs v)))

pub In-times : (xs : List ℕ) (v : ℕ) → In xs v → 0 < times xs v
In-times [] v h = absurd h
In-times (x ∷ xs) v (inl e) = let z = same x v e in omega (arith, times-cons x xs v)
In-times (x ∷ xs) v (inr h) = let r = In-times xs v h in omega (arith, times-cons x xs v)

twice : (xs : List ℕ) (k : ℕ) → suc k < length xs → get_or xs k 0 ≡ get_or xs (suc k) 0 → 2 ≤ times xs (get_or xs k 0)
twice [] k lt e = absurd (omega arith)
twice (x ∷ []) k lt e = absurd (omega arith)
twice (x ∷ y ∷ xs) zero lt e =
    let z = same y x (sym e) in
    omega (arith, times-cons x (y ∷ xs) x, times-cons y xs x, one_self x)
twice (x ∷ y ∷ xs) (suc k) lt e =
    let r = twice (y ∷ xs) k (omega arith) e in
    omega (arith, times-cons x (y ∷ xs) (get_or (y ∷ xs) k 0))

-- a list in order that has each number once rises
pub rises : (xs : List ℕ) → IsNonDecreasing xs → ((v : ℕ) → times xs v ≤ 1) → IsStrictlyIncreasing xs
rises xs up o k lt = by (cases_eq (get_or xs k 0) (get_or xs (k + 1) 0))
  where
    by : (get_or xs k 0 ≡ get_or xs (k + 1) 0) ⊎ (get_or xs k 0 ≢ get_or xs (k + 1) 0) → get_or xs k 0 < get_or xs (k + 1) 0
    by (inl e) = let r = twice xs k (omega arith) (rw add-one at e) in let s = o (get_or xs k 0) in absurd (omega arith)
    by (inr n) = let l = up k (k + 1) 0 (omega arith) lt in omega arith

index_of : (ys : List ℕ) (v : ℕ) → In ys v → (i : ℕ) × (i < length ys) × (get_or ys i 0 ≡ v)
index_of [] v h = absurd h
index_of (y ∷ ys) v (inl e) = (0, omega arith, e)
index_of (y ∷ ys) v (inr h) = let r = index_of ys v h in (suc r.0, omega arith, r.2)

-- a list that has each number once, all of them in another list, has no greater sum
pub sum_in : (f : ℕ → ℕ) (xs ys : List ℕ) → ((v : ℕ) → times xs v ≤ 1) → ((v : ℕ) → In xs v → In ys v) → sum_by f xs ≤ sum_by f ys
sum_in f [] ys o h = omega arith
sum_in f (x ∷ xs) ys o h =
    let p = index_of ys x (h x (inl refl)) in
    let r = sum_in f xs (remove ys p.0) (λ v. let q = o v in omega (arith, times-cons x xs v))
    (λ v m. remove-In ys p.0 v p.1 (λ e. let q = o x in let s = In-times xs x (subst (In xs) (e ∙ p.2) m) in absurd (omega (arith, times-cons x xs x, one_self x))) (h v (inr m))) in
    let s = sum_by-remove f ys p.0 0 p.1 in
    let e = ap f p.2 in
    omega (arith, sum_by-cons f x xs)
