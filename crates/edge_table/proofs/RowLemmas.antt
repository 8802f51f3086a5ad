-- the numbers of a row after a change at one place
use Rattle.std.proofs.Common.{◌≡◌, ◌≢◌, ℕ, zero, suc, ◌+◌, ◌<◌, ◌≤◌, inl, inr, Bool, true, false, cond, eqb, List, [], ◌∷◌, length, get_or, set, insert, remove, All, Contains, refl, sym, ap, ◌∙◌, arith}
use Rattle.std.proofs.lemmas.Bool.Decides.{nat_tests}
use Rattle.std.proofs.lemmas.List.Edits.{length-insert, length-remove}
use Rattle.std.proofs.lemmas.Bool.{cases_lt}
use Rattle.std.proofs.lemmas.List.{get_or_default}
use Rattle.std.proofs.lemmas.List.Elements.{All-from_recursion, recursion_from_All}
use Rattle.std.specs.List.{AllByRecursion}
use Rattle.mesh_base.proofs.Ascending.{In, Asc, In-get_or, Contains-from_In, Asc-from_increasing, increasing-from_Asc, Asc-insert, Asc-remove}
use Rattle.mesh_base.specs.Numbers.{IsPlaceOf}
use Rattle.edge_table.specs.Pairs.{number_at, IsRow}

pub number_at-absent : (xs ns : List ℕ) (u : ℕ) → (In xs u → ⊥) → number_at xs ns u ≡ 0
number_at-absent [] ns u a = refl
number_at-absent (x ∷ xs) [] u a = refl
number_at-absent (x ∷ xs) (n ∷ ns) u a =
    let other : x ≢ u = (λ e. a (inl e)) in
    let r = number_at-absent xs ns u (λ h. a (inr h)) in
    grind (arith, nat_tests)

pub number_at-some : (xs ns : List ℕ) (u : ℕ) → 0 < number_at xs ns u → In xs u
number_at-some [] ns u lt = absurd (omega arith)
number_at-some (x ∷ xs) [] u lt = absurd (omega arith)
number_at-some (x ∷ xs) (n ∷ ns) u lt = by (eqb x u) refl lt (number_at-some xs ns u)
  where
    by : (b : Bool) → eqb x u ≡ b → 0 < cond b n (number_at xs ns u) → (0 < number_at xs ns u → In xs u) → In (x ∷ xs) u
    by true e l rest = inl (grind (arith, nat_tests))
    by false e l rest = inr (rest l)

pub number_at-place : (xs ns : List ℕ) (i : ℕ) → Asc xs → length ns ≡ length xs → i < length xs → number_at xs ns (get_or xs i 0) ≡ get_or ns i 0
number_at-place [] ns i a e lt = absurd (omega arith)
number_at-place (x ∷ xs) [] i a e lt = absurd (omega arith)
number_at-place (x ∷ xs) (n ∷ ns) zero a e lt = grind (arith, nat_tests)
number_at-place (x ∷ xs) (n ∷ ns) (suc i) a e lt =
    let r = number_at-place xs ns i a.1 (omega arith) (omega arith) in
    let l = a.0 (get_or xs i 0) (In-get_or xs i (omega arith)) in
    grind (arith, nat_tests)

pub number_at-set : (xs ns : List ℕ) (i n u : ℕ) → Asc xs → length ns ≡ length xs → i < length xs → number_at xs (set ns i n) u ≡ cond (eqb (get_or xs i 0) u) n (number_at xs ns u)
number_at-set [] ns i n u a e lt = absurd (omega arith)
number_at-set (x ∷ xs) [] i n u a e lt = absurd (omega arith)
number_at-set (x ∷ xs) (m ∷ ns) zero n u a e lt = grind (arith, nat_tests)
number_at-set (x ∷ xs) (m ∷ ns) (suc i) n u a e lt =
    let r = number_at-set xs ns i n u a.1 (omega arith) (omega arith) in
    let l = a.0 (get_or xs i 0) (In-get_or xs i (omega arith)) in
    grind (arith, nat_tests)

pub number_at-insert : (xs ns : List ℕ) (i w n u : ℕ) → (In xs w → ⊥) → length ns ≡ length xs → i ≤ length xs → number_at (insert xs i w) (insert ns i n) u ≡ cond (eqb w u) n (number_at xs ns u)
number_at-insert xs ns zero w n u a e lt = refl
number_at-insert [] ns (suc i) w n u a e lt = absurd (omega arith)
number_at-insert (x ∷ xs) [] (suc i) w n u a e lt = absurd (omega arith)
number_at-insert (x ∷ xs) (m ∷ ns) (suc i) w n u a e lt =
    let r = number_at-insert xs ns i w n u (λ h. a (inr h)) (omega arith) (omega arith) in
    let other : x ≢ w = (λ q. a (inl q)) in
    grind (arith, nat_tests)

pub number_at-remove : (xs ns : List ℕ) (i u : ℕ) → Asc xs → length ns ≡ length xs → i < length xs → number_at (remove xs i) (remove ns i) u ≡ cond (eqb (get_or xs i 0) u) 0 (number_at xs ns u)
number_at-remove [] ns i u a e lt = absurd (omega arith)
number_at-remove (x ∷ xs) [] i u a e lt = absurd (omega arith)
number_at-remove (x ∷ xs) (m ∷ ns) zero u a e lt = by (eqb x u) refl
  where
    by : (b : Bool) → eqb x u ≡ b → number_at xs ns u ≡ cond b 0 (cond b m (number_at xs ns u))
    by true q = number_at-absent xs ns u (λ h. let l = a.0 u h in let s : x ≡ u = grind (arith, nat_tests) in omega arith)
    by false q = refl
number_at-remove (x ∷ xs) (m ∷ ns) (suc i) u a e lt =
    let r = number_at-remove xs ns i u a.1 (omega arith) (omega arith) in
    let l = a.0 (get_or xs i 0) (In-get_or xs i (omega arith)) in
    grind (arith, nat_tests)

all_insert : (ns : List ℕ) (i n : ℕ) → 0 < n → AllByRecursion (λ k. 0 < k) ns → AllByRecursion (λ k. 0 < k) (insert ns i n)
all_insert ns zero n lt a = (lt, a)
all_insert [] (suc i) n lt a = (lt, tt)
all_insert (x ∷ ns) (suc i) n lt a = (a.0, all_insert ns i n lt a.1)

all_remove : (ns : List ℕ) (i : ℕ) → AllByRecursion (λ k. 0 < k) ns → AllByRecursion (λ k. 0 < k) (remove ns i)
all_remove [] zero a = tt
all_remove [] (suc i) a = tt
all_remove (x ∷ ns) zero a = a.1
all_remove (x ∷ ns) (suc i) a = (a.0, all_remove ns i a.1)

All-insert : (ns : List ℕ) (i n : ℕ) → 0 < n → All (λ k. 0 < k) ns → All (λ k. 0 < k) (insert ns i n)
All-insert ns i n lt a = All-from_recursion (λ k. 0 < k) (insert ns i n) (all_insert ns i n lt (recursion_from_All (λ k. 0 < k) ns a))

All-remove : (ns : List ℕ) (i : ℕ) → All (λ k. 0 < k) ns → All (λ k. 0 < k) (remove ns i)
All-remove ns i a = All-from_recursion (λ k. 0 < k) (remove ns i) (all_remove ns i (recursion_from_All (λ k. 0 < k) ns a))

-- a number at its place is not listed
pub not_in : (w : ℕ) (xs : List ℕ) (i : ℕ) → IsPlaceOf w xs i → In xs w → ⊥
not_in w xs i p h = by (Contains-from_In xs w h)
  where
    by : Contains xs w → ⊥
    by (k, lt, e) = elim (cases_lt k i) [ inl l ↦ (let b = p.before k l in let d = get_or_default xs k w 0 lt in omega arith) | inr g ↦ (let b = p.after k g lt in let d = get_or_default xs k w 0 lt in omega arith) ]

pub IsRow-insert : (xs ns : List ℕ) (i w n : ℕ) → 0 < n → IsPlaceOf w xs i → IsRow xs ns → IsRow (insert xs i w) (insert ns i n)
IsRow-insert xs ns i w n lt p r = record {
  ascending = increasing-from_Asc _ (Asc-insert xs i w p.within p.before p.after (Asc-from_increasing xs r.ascending));
  even = let e = r.even in let l = p.within in omega (arith, length-insert xs i w p.within, length-insert ns i n (omega arith));
  some = All-insert ns i n lt r.some;
}

pub IsRow-remove : (xs ns : List ℕ) (i : ℕ) → i < length xs → IsRow xs ns → IsRow (remove xs i) (remove ns i)
IsRow-remove xs ns i lt r = record {
  ascending = increasing-from_Asc _ (Asc-remove xs i lt (Asc-from_increasing xs r.ascending));
  even = let e = r.even in omega (arith, length-remove xs i lt, length-remove ns i (omega arith));
  some = All-remove ns i r.some;
}

same_at : (xs ns : List ℕ) (w u : ℕ) → eqb w u ≡ true → number_at xs ns w ≡ number_at xs ns u
same_at xs ns w u e = let q : w ≡ u = grind (arith, nat_tests) in ap (number_at xs ns) q

pub number_of : (xs ns : List ℕ) (i w : ℕ) → IsRow xs ns → i < length xs → get_or xs i 0 ≡ w → number_at xs ns w ≡ get_or ns i 0
number_of xs ns i w r lt e = sym (ap (number_at xs ns) e) ∙ number_at-place xs ns i (Asc-from_increasing xs r.ascending) r.even lt

pub more_there : (xs ns : List ℕ) (i w n u : ℕ) → IsRow xs ns → i < length xs → get_or xs i 0 ≡ w
    → number_at xs (set ns i (get_or ns i 0 + n)) u ≡ number_at xs ns u + cond (eqb w u) n 0
more_there xs ns i w n u r lt e =
    number_at-set xs ns i (get_or ns i 0 + n) u (Asc-from_increasing xs r.ascending) r.even lt
    ∙ ap (λ k. cond (eqb k u) (get_or ns i 0 + n) (number_at xs ns u)) e ∙ by (eqb w u) refl
  where
    by : (b : Bool) → eqb w u ≡ b → cond b (get_or ns i 0 + n) (number_at xs ns u) ≡ number_at xs ns u + cond b n 0
    by true q = let s = same_at xs ns w u q in let t = number_of xs ns i w r lt e in omega arith
    by false q = omega arith

pub less_there : (xs ns : List ℕ) (i w u n : ℕ) → IsRow xs ns → i < length xs → get_or xs i 0 ≡ w → n + 1 ≡ get_or ns i 0
    → number_at xs (set ns i n) u + cond (eqb w u) 1 0 ≡ number_at xs ns u
less_there xs ns i w u n r lt e m =
    ap (λ k. k + cond (eqb w u) 1 0) (number_at-set xs ns i n u (Asc-from_increasing xs r.ascending) r.even lt ∙ ap (λ k. cond (eqb k u) n (number_at xs ns u)) e) ∙ by (eqb w u) refl
  where
    by : (b : Bool) → eqb w u ≡ b → cond b n (number_at xs ns u) + cond b 1 0 ≡ number_at xs ns u
    by true q = let s = same_at xs ns w u q in let t = number_of xs ns i w r lt e in omega arith
    by false q = omega arith

pub less_out : (xs ns : List ℕ) (i w u : ℕ) → IsRow xs ns → i < length xs → get_or xs i 0 ≡ w → get_or ns i 0 ≡ 1
    → number_at (remove xs i) (remove ns i) u + cond (eqb w u) 1 0 ≡ number_at xs ns u
less_out xs ns i w u r lt e m =
    ap (λ k. k + cond (eqb w u) 1 0) (number_at-remove xs ns i u (Asc-from_increasing xs r.ascending) r.even lt ∙ ap (λ k. cond (eqb k u) 0 (number_at xs ns u)) e) ∙ by (eqb w u) refl
  where
    by : (b : Bool) → eqb w u ≡ b → cond b 0 (number_at xs ns u) + cond b 1 0 ≡ number_at xs ns u
    by true q = let s = same_at xs ns w u q in let t = number_of xs ns i w r lt e in omega arith
    by false q = omega arith

pub more_in : (xs ns : List ℕ) (i w n u : ℕ) → IsRow xs ns → IsPlaceOf w xs i
    → number_at (insert xs i w) (insert ns i n) u ≡ number_at xs ns u + cond (eqb w u) n 0
more_in xs ns i w n u r p = number_at-insert xs ns i w n u (not_in w xs i p) r.even p.within ∙ by (eqb w u) refl
  where
    by : (b : Bool) → eqb w u ≡ b → cond b n (number_at xs ns u) ≡ number_at xs ns u + cond b n 0
    by true q = let s = same_at xs ns w u q in let t = number_at-absent xs ns w (not_in w xs i p) in omega arith
    by false q = omega arith

-- a number greater than each that a row lists belongs at its end
pub place_last : (xs ns : List ℕ) (w : ℕ) → IsRow xs ns → ((u : ℕ) → 0 < number_at xs ns u → u < w) → IsPlaceOf w xs (length xs)
place_last xs ns w r last = record {
  within = omega arith;
  before = λ k lt.
      let at = number_at-place xs ns k (Asc-from_increasing xs r.ascending) r.even lt in
      let some = r.some k 0 (let q = r.even in omega arith) in
      last (get_or xs k 0) (omega arith);
  after = λ k le lt. absurd (omega arith);
}
