-- What a chain of watches makes.
use Rattle.std.proofs.Common.{◌≡◌, ℕ, zero, suc, ◌+◌, ◌-◌, ◌<◌, ◌≤◌, Bool, true, false, cond, inl, inr, ◌⊎◌, Option, Some, None, List, [], ◌∷◌, ◌++◌, length, drop, refl, sym, ap, ◌∙◌, subst, arith, append_assoc}
use Rattle.std.specs.Prelude.{◌==◌, All, slice_index}
use Rattle.std.proofs.Math.Seq.{drop-cons, drop-length}
use Rattle.std.proofs.lemmas.Bool.{false≢true, eqb-true, eq-eqb, and_parts, and_from, cases_lt}
use Rattle.std.proofs.lemmas.List.Elements.{All-nil, All-cons}
use Rattle.mesh_base.proofs.Ascending.{same_list_of}
use Rattle.box_watch.specs.declared.watch.Watch.{Watch}
use Rattle.box_watch.specs.Replay.{no_watch, watch_at, IsAfter, vertices_at, Follows, IsWatched, IsWatchList}
use Rattle.box_watch.specs.Chain.{is_wanted, chain_below, IsMadeBy}

wanted-parts : (s : ℕ) (o : Option ℕ) (w : Watch) (q : ℕ) → o ≡ Some q → is_wanted s o w ≡ true → (w.session ≡ s) × (w.query ≡ q)
wanted-parts s None w q e t = absurd (false≢true t)
wanted-parts s (Some p) w q e t =
    let parts = and_parts (w.session == s) (p == w.query) t in let same : p ≡ q = some-same p q e in
    (eqb-true w.session s parts.0, sym (eqb-true p w.query parts.1) ∙ same)
  where
    some-same : (a b : ℕ) → Some a ≡ Some b → a ≡ b
    some-same a b h = cc

wanted-some : (s : ℕ) (o : Option ℕ) (w : Watch) → is_wanted s o w ≡ true → (q : ℕ) × (o ≡ Some q)
wanted-some s None w t = absurd (false≢true t)
wanted-some s (Some q) w t = (q, refl)

is-wanted : (s q : ℕ) (o : Option ℕ) (w : Watch) → o ≡ Some q → w.session ≡ s → w.query ≡ q → is_wanted s o w ≡ true
is-wanted s q o w e es eq = ap (λ p. is_wanted s p w) e ∙ and_from (w.session == s) (q == w.query) (eq-eqb w.session s es) (eq-eqb q w.query (sym eq))

module _ (all : List Watch) (table : ℕ → ℕ → List ℕ) where
  -- some watch among the first n is the wanted one, if one is wanted
  abbrev IsThere : ℕ → ℕ → Option ℕ → Type 0
  IsThere n s o = (q : ℕ) → o ≡ Some q → IsWatched all n s q

  nothing-made : (s : ℕ) (o : Option ℕ) (vs : List ℕ) → IsThere 0 s o → vs ≡ [] → vs ≡ vertices_at table s o
  nothing-made s None vs there e = e
  nothing-made s (Some q) vs there e = absurd (omega (arith, (there q refl).1))

  one-made : (m s : ℕ) (o : Option ℕ) (vs : List ℕ) (b : Bool) → is_wanted s o (watch_at all m) ≡ b → m < length all → IsWatchList all → Follows all table → IsThere (suc m) s o
      → ((p : Option ℕ) (us : List ℕ) → IsThere m s p → IsMadeBy all (chain_below all m s p) us → us ≡ vertices_at table s p)
      → IsMadeBy all (cond b (m ∷ chain_below all m s (watch_at all m).prior) (chain_below all m s o)) vs → vs ≡ vertices_at table s o
  one-made m s o vs true is lt list follows there more (before, made, after) =
      let w = watch_at all m in let some = wanted-some s o w is in let parts = wanted-parts s o w some.0 some.1 is in
      let early : IsThere m s w.prior = λ q e. subst (λ i. IsWatched all m i q) parts.0 (list.earlier m q lt e) in
      let old : before ≡ vertices_at table w.session w.prior = more w.prior before early made ∙ ap (λ i. vertices_at table i w.prior) (sym parts.0) in
      let new : vs ≡ table w.session w.query =
      same_list_of _ vs (table w.session w.query) (subst (λ l. IsAfter l w vs) old after) (follows m no_watch lt) in
      new ∙ (ap (λ i. table i w.query) parts.0 ∙ (ap (table s) parts.1 ∙ ap (vertices_at table s) (sym some.1)))
  one-made m s o vs false is lt list follows there more made = more o vs early made
    where
      early : IsThere m s o
      early q e = by (there q e)
        where
          by : IsWatched all (suc m) s q → IsWatched all m s q
          by (j, lj, es, eq) = split (cases_lt j m)
            where
              split : (j < m) ⊎ (m ≤ j) → IsWatched all m s q
              split (inl l) = (j, l, es, eq)
              split (inr g) =
                  let at : j ≡ m = omega arith in
                  absurd (false≢true (sym is ∙ is-wanted s q o (watch_at all m) e (ap (λ i. (watch_at all i).session) (sym at) ∙ es) (ap (λ i. (watch_at all i).query) (sym at) ∙ eq)))

  pub made-is : (n s : ℕ) (o : Option ℕ) (vs : List ℕ) → n ≤ length all → IsWatchList all → Follows all table → IsThere n s o → IsMadeBy all (chain_below all n s o) vs → vs ≡ vertices_at table s o
  made-is zero s o vs le list follows there made = nothing-made s o vs there made
  made-is (suc m) s o vs le list follows there made =
      one-made m s o vs (is_wanted s o (watch_at all m)) refl (omega arith) list follows there
      (λ p us e. made-is m s p us (omega arith) list follows e) made

  -- the watch at a place and those that lead to it
  pub made-at : (at : ℕ) (vs : List ℕ) → at < length all → IsWatchList all → Follows all table
      → IsMadeBy all (at ∷ chain_below all at (watch_at all at).session (watch_at all at).prior) vs → vs ≡ table (watch_at all at).session (watch_at all at).query
  made-at at vs lt list follows (before, made, after) =
      let w = watch_at all at in
      let old = made-is at w.session w.prior before (omega arith) list follows (λ q e. list.earlier at q lt e) made in
      same_list_of _ vs (table w.session w.query) (subst (λ l. IsAfter l w vs) old after) (follows at no_watch lt)

-- all places of a chain are below its start
below-one : (n m : ℕ) (b : Bool) (xs ys : List ℕ) → m < n → All (λ i. i < n) xs → All (λ i. i < n) ys → All (λ i. i < n) (cond b (m ∷ xs) ys)
below-one n m true xs ys lt ax ay = All-cons (λ i. i < n) m xs lt ax
below-one n m false xs ys lt ax ay = ay

pub chain-below : (all : List Watch) (n m s : ℕ) (o : Option ℕ) → n ≤ m → All (λ i. i < m) (chain_below all n s o)
chain-below all zero m s o le = All-nil (λ i. i < m)
chain-below all (suc n) m s o le =
    below-one m n (is_wanted s o (watch_at all n)) (chain_below all n s (watch_at all n).prior) (chain_below all n s o) (omega arith)
    (chain-below all n m s (watch_at all n).prior (omega arith)) (chain-below all n m s o (omega arith))

-- ---- the code's loops

-- one more watch was looked at, from the last back
pub chain-next : (all : List Watch) (n s : ℕ) (o p : Option ℕ) (w : Watch) (xs ys goal : List ℕ) → w ≡ watch_at all n
    → xs ++ chain_below all (suc n) s o ≡ goal → ys ≡ xs ++ cond (is_wanted s o w) (n ∷ []) [] → p ≡ cond (is_wanted s o w) w.prior o
    → ys ++ chain_below all n s p ≡ goal
chain-next all n s o p w xs ys goal is e ey ep = by (is_wanted s o w) refl
  where
    same : is_wanted s o w ≡ is_wanted s o (watch_at all n)
    same = ap (is_wanted s o) is

    by : (b : Bool) → is_wanted s o w ≡ b → ys ++ chain_below all n s p ≡ goal
    by true t =
        let new : ys ≡ xs ++ n ∷ [] = ey ∙ ap (λ b. xs ++ cond b (n ∷ []) []) t in
        let next : p ≡ (watch_at all n).prior = ep ∙ (ap (λ b. cond b w.prior o) t ∙ ap (λ (v : Watch). v.prior) is) in
        let whole : chain_below all (suc n) s o ≡ n ∷ chain_below all n s (watch_at all n).prior =
        ap (λ b. cond b (n ∷ chain_below all n s (watch_at all n).prior) (chain_below all n s o)) (sym same ∙ t) in
        ap (λ l. l ++ chain_below all n s p) new
        ∙ (append_assoc xs (n ∷ []) (chain_below all n s p)
        ∙ (ap (λ q. xs ++ n ∷ chain_below all n s q) next ∙ (ap (λ l. xs ++ l) (sym whole) ∙ e)))
    by false t =
        let new : ys ≡ xs ++ [] = ey ∙ ap (λ b. xs ++ cond b (n ∷ []) []) t in
        let next : p ≡ o = ep ∙ ap (λ b. cond b w.prior o) t in
        let whole : chain_below all (suc n) s o ≡ chain_below all n s o =
        ap (λ b. cond b (n ∷ chain_below all n s (watch_at all n).prior) (chain_below all n s o)) (sym same ∙ t) in
        ap (λ l. l ++ chain_below all n s p) new
        ∙ (append_assoc xs [] (chain_below all n s p)
        ∙ (ap (λ q. xs ++ chain_below all n s q) next ∙ (ap (λ l. xs ++ l) (sym whole) ∙ e)))

pub chain-step : (all : List Watch) (at back place s : ℕ) (o p : Option ℕ) (w : Watch) (xs ys goal : List ℕ) → back < at → place ≡ at - 1 - back → w ≡ watch_at all place
    → xs ++ chain_below all (at - back) s o ≡ goal → ys ≡ xs ++ cond (is_wanted s o w) (place ∷ []) [] → p ≡ cond (is_wanted s o w) w.prior o
    → ys ++ chain_below all (at - (back + 1)) s p ≡ goal
chain-step all at back place s o p w xs ys goal lt ep is e ey eo =
    let n = at - (back + 1) in let up : suc n ≡ at - back = omega arith in let pn : place ≡ n = omega arith in
    chain-next all n s o p w xs ys goal (is ∙ ap (watch_at all) pn) (ap (λ m. xs ++ chain_below all m s o) up ∙ e) (ey ∙ ap (λ m. xs ++ cond (is_wanted s o w) (m ∷ []) []) pn) eo

-- one more watch of the chain was applied, from the first on
pub made-next : (all : List Watch) (chain : List ℕ) (done place : ℕ) (vs us : List ℕ) (w : Watch) → done < length chain → place ≡ slice_index chain (length chain - 1 - done)
    → w ≡ watch_at all place → IsMadeBy all (drop (length chain - done) chain) vs → IsAfter vs w us → IsMadeBy all (drop (length chain - (done + 1)) chain) us
made-next all chain done place vs us w lt is iw made after =
    let k = length chain - (done + 1) in let e : length chain - 1 - done ≡ k = omega arith in let f : suc k ≡ length chain - done = omega arith in
    let cut : drop k chain ≡ slice_index chain k ∷ drop (length chain - done) chain = drop-cons chain k 0 (omega arith) ∙ ap (λ n. slice_index chain k ∷ drop n chain) f in
    let at : watch_at all (slice_index chain k) ≡ w = ap (λ n. watch_at all (slice_index chain n)) (sym e) ∙ (ap (watch_at all) (sym is) ∙ sym iw) in
    subst (λ l. IsMadeBy all l us) (sym cut) (vs, made, subst (λ v. IsAfter vs v us) (sym at) after)

-- the whole chain of a watch lies in the list
pub chain-within : (all : List Watch) (at : ℕ) (chain : List ℕ) → at < length all → chain ≡ at ∷ chain_below all at (watch_at all at).session (watch_at all at).prior → All (λ i. i < length all) chain
chain-within all at chain lt e =
    subst (λ l. All (λ i. i < length all) l) (sym e)
    (All-cons (λ i. i < length all) at (chain_below all at (watch_at all at).session (watch_at all at).prior) lt (chain-below all at (length all) (watch_at all at).session (watch_at all at).prior (omega arith)))

-- nothing was applied yet, and all was
pub made-none : (all : List Watch) (chain vs : List ℕ) → vs ≡ [] → IsMadeBy all (drop (length chain - 0) chain) vs
made-none all chain vs e = let z : length chain - 0 ≡ length chain = omega arith in subst (λ l. IsMadeBy all l vs) (sym (ap (λ n. drop n chain) z ∙ drop-length chain)) e

pub made-all : (all : List Watch) (chain vs : List ℕ) (done : ℕ) → done ≡ length chain → IsMadeBy all (drop (length chain - done) chain) vs → IsMadeBy all chain vs
made-all all chain vs done e made = let z : length chain - done ≡ 0 = omega arith in subst (λ n. IsMadeBy all (drop n chain) vs) z made
