-- a list in order, gone through once: how often each number stands up to there
use Rattle.std.proofs.Common.{◌≡◌, ◌≢◌, ℕ, zero, suc, ◌+◌, ◌-◌, ◌<◌, ◌≤◌, ◌⊎◌, inl, inr, Bool, true, false, eqb, List, [], ◌∷◌, ◌++◌, length, get_or, take, Contains, refl, sym, ap, subst, ◌∙◌, arith, length-append, add-one}
use Rattle.std.proofs.lemmas.Bool.{cases_lt, cases_eq, eq-eqb, ne_eqb}
use Rattle.std.proofs.lemmas.List.{get_or_append_left, get_or_default, get_or_push, get_or-take, length-take-le}
use Rattle.std.proofs.lemmas.List.Sums.{count_by_more_yes, count_by_more_no}
use Rattle.std.proofs.lemmas.List.Elements.{Contains-append_left, Contains-push, Contains-push_cases, Contains-get_or}
use Rattle.std.specs.List.Sorted.{IsNonDecreasing, IsStrictlyIncreasing}
use Rattle.mesh_base.specs.Numbers.{IsListOf}
use Rattle.mesh_base.proofs.Ascending.{In-from_Contains, Contains-from_In}
use Rattle.mesh_base.proofs.Once.{times-In}
use Rattle.cell_box.specs.Often.{times}

-- a number of the front stands before k
in_front : (xs : List ℕ) (k w : ℕ) → k < length xs → 0 < times (take k xs) w → (m : ℕ) × (m < k) × (get_or xs m 0 ≡ w)
in_front xs k w lt some =
    let c = Contains-from_In (take k xs) w (times-In (take k xs) w some) in
    let l : length (take k xs) ≡ k = length-take-le k xs (omega arith) in
    let m : c.0 < k = omega arith in
    (c.0, m, sym (get_or-take k xs c.0 0 m) ∙ get_or_default (take k xs) c.0 0 w c.1 ∙ c.2)

pub none_before : (xs : List ℕ) (k : ℕ) → IsNonDecreasing xs → k < length xs → ((j : ℕ) → k ≡ j + 1 → get_or xs j 0 ≢ get_or xs k 0) → times (take k xs) (get_or xs k 0) ≡ 0
none_before xs k up lt apart = by (cases_lt 0 (times (take k xs) (get_or xs k 0)))
  where
    by : (0 < times (take k xs) (get_or xs k 0)) ⊎ (times (take k xs) (get_or xs k 0) ≤ 0) → times (take k xs) (get_or xs k 0) ≡ 0
    by (inl some) =
        let m = in_front xs k (get_or xs k 0) lt some in
        let j : k ≡ (k - 1) + 1 = omega arith in
        let a = up m.0 (k - 1) 0 (omega arith) (omega arith) in
        let b = up (k - 1) k 0 (omega arith) lt in
        absurd (apart (k - 1) j (omega arith))
    by (inr none) = omega arith

-- one more of the number at k, and no more of another
pub times_here : (xs : List ℕ) (k : ℕ) → k < length xs → times (take (k + 1) xs) (get_or xs k 0) ≡ times (take k xs) (get_or xs k 0) + 1
times_here xs k lt = count_by_more_yes (λ x. eqb x (get_or xs k 0)) xs k 0 lt (eq-eqb (get_or xs k 0) (get_or xs k 0) refl)

pub times_there : (xs : List ℕ) (k w : ℕ) → k < length xs → get_or xs k 0 ≢ w → times (take (k + 1) xs) w ≡ times (take k xs) w
times_there xs k w lt n = count_by_more_no (λ x. eqb x w) xs k 0 lt (ne_eqb (get_or xs k 0) w n)

pub increasing_push : (xs : List ℕ) (y : ℕ) → IsStrictlyIncreasing xs → ((w : ℕ) → Contains xs w → w < y) → IsStrictlyIncreasing (xs ++ y ∷ [])
increasing_push xs y up below k lt = by (cases_lt (k + 1) (length xs))
  where
    len : length (xs ++ y ∷ []) ≡ length xs + 1
    len = omega (arith, length-append xs (y ∷ []))

    by : (k + 1 < length xs) ⊎ (length xs ≤ k + 1) → get_or (xs ++ y ∷ []) k 0 < get_or (xs ++ y ∷ []) (k + 1) 0
    by (inl l) =
        let a = get_or_append_left xs (y ∷ []) 0 k (omega arith) in
        let b = get_or_append_left xs (y ∷ []) 0 (k + 1) l in
        let c = up k l in
        omega arith
    by (inr g) =
        let e = len in
        let a = get_or_append_left xs (y ∷ []) 0 k (omega arith) in
        let b = get_or_push xs y 0 (k + 1) (omega arith) in
        let c = below (get_or xs k 0) (Contains-get_or xs k 0 (omega arith)) in
        omega arith

module _ (xs : List ℕ) (k least : ℕ) (up : IsNonDecreasing xs) (lt : k < length xs) (some : 0 < least) (found : List ℕ) (before : IsListOf (λ i. least ≤ times (take k xs) i) found) where
  -- the number at k now stands often enough
  pub list_push : times (take (k + 1) xs) (get_or xs k 0) ≡ least → IsListOf (λ i. least ≤ times (take (k + 1) xs) i) (found ++ get_or xs k 0 ∷ [])
  list_push e = record {
    ascending = increasing_push found (get_or xs k 0) before.ascending below;
    every = λ w h. every w h (cases_eq (get_or xs k 0) w);
    only = λ w m. only w (Contains-push_cases found (get_or xs k 0) w m);
  }
    where
      below : (w : ℕ) → Contains found w → w < get_or xs k 0
      below w m =
          let h = before.only w m in
          let f = in_front xs k w lt (omega arith) in
          let a = up f.0 k 0 (omega arith) lt in
          let t = times_here xs k lt in
          elim (cases_eq w (get_or xs k 0)) [
            | inl q ↦ (let s = ap (times (take k xs)) q in absurd (omega arith))
            | inr n ↦ below_by w (get_or xs k 0) n (omega arith)
          ]
        where
          below_by : (w x : ℕ) → w ≢ x → w ≤ x → w < x
          below_by w x n le = elim (cases_lt w x) [ inl l ↦ l | inr g ↦ absurd (n (omega arith)) ]

      every : (w : ℕ) → least ≤ times (take (k + 1) xs) w → (get_or xs k 0 ≡ w) ⊎ (get_or xs k 0 ≢ w) → Contains (found ++ get_or xs k 0 ∷ []) w
      every w h (inl q) = subst (Contains (found ++ get_or xs k 0 ∷ [])) q (Contains-push found (get_or xs k 0))
      every w h (inr n) = let t = times_there xs k w lt n in Contains-append_left found (get_or xs k 0 ∷ []) w (before.every w (omega arith))

      only : (w : ℕ) → Contains found w ⊎ (get_or xs k 0 ≡ w) → least ≤ times (take (k + 1) xs) w
      only w (inr q) = subst (λ w. least ≤ times (take (k + 1) xs) w) q (omega arith)
      only w (inl m) = by (cases_eq (get_or xs k 0) w) (before.only w m)
        where
          by : (get_or xs k 0 ≡ w) ⊎ (get_or xs k 0 ≢ w) → least ≤ times (take k xs) w → least ≤ times (take (k + 1) xs) w
          by (inl q) h = let t = times_here xs k lt in subst (λ w. least ≤ times (take (k + 1) xs) w) q (omega arith)
          by (inr n) h = let t = times_there xs k w lt n in omega arith

  -- it stands not often enough, or did before
  pub list_keep : times (take (k + 1) xs) (get_or xs k 0) ≢ least → IsListOf (λ i. least ≤ times (take (k + 1) xs) i) found
  list_keep d = record {
    ascending = before.ascending;
    every = λ w h. before.every w (every w h (cases_eq (get_or xs k 0) w));
    only = λ w m. only w (before.only w m) (cases_eq (get_or xs k 0) w);
  }
    where
      enough : (n m : ℕ) → n ≢ least → least ≤ n → n ≡ m + 1 → least ≤ m
      enough n m d le e = elim (cases_lt least n) [ inl l ↦ omega arith | inr g ↦ absurd (d (omega arith)) ]

      every : (w : ℕ) → least ≤ times (take (k + 1) xs) w → (get_or xs k 0 ≡ w) ⊎ (get_or xs k 0 ≢ w) → least ≤ times (take k xs) w
      every w h (inl q) =
          subst (λ w. least ≤ times (take k xs) w) q
          (enough (times (take (k + 1) xs) (get_or xs k 0)) (times (take k xs) (get_or xs k 0)) d (subst (λ w. least ≤ times (take (k + 1) xs) w) (sym q) h) (times_here xs k lt))
      every w h (inr n) = let t = times_there xs k w lt n in omega arith

      only : (w : ℕ) → least ≤ times (take k xs) w → (get_or xs k 0 ≡ w) ⊎ (get_or xs k 0 ≢ w) → least ≤ times (take (k + 1) xs) w
      only w h (inl q) =
          let t = times_here xs k lt in
          let h' : least ≤ times (take k xs) (get_or xs k 0) = subst (λ w. least ≤ times (take k xs) w) (sym q) h in
          subst (λ w. least ≤ times (take (k + 1) xs) w) q (omega arith)
      only w h (inr n) = let t = times_there xs k w lt n in omega arith
