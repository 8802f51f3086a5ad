-- The held steps are the newest one and those that sessions have out.
use Rattle.std.specs.Prelude.{◌≡◌, ◌≢◌, ℕ, suc, zero, ◌+◌, ◌==◌, ◌<◌, ◌≤◌, ◌⊎◌, Bool, true, false, List, [], ◌∷◌, ◌++◌, Contains, length, slice_index_or, Option, Some, None, refl}
use Rattle.std.proofs.Common.{arith, inl, inr, sym, ◌∙◌, ap, subst, length-append}
use Rattle.std.proofs.lemmas.Bool.{eqb-true, eq-eqb, lt-ltb, ltb-true, cases_lt}
use Rattle.std.proofs.lemmas.List.Elements.{Contains-append_left, Contains-append_right, Contains-append_cases}
use Rattle.std.proofs.lemmas.List.Sums.{sum_by-cons}
use Rattle.mesh_base.specs.Numbers.{IsListOf}
use Rattle.mesh_base.proofs.Ascending.{In, Asc, Asc-from_increasing, Contains-from_In, increasing-from_Asc, IsListOf-filter_range}
use Rattle.run_script.specs.Jobs.{JobView}
use Rattle.step_registry.specs.declared.event.Event.{Event}
use Rattle.step_registry.specs.declared.event.SessionState.{SessionState}
use Rattle.step_registry.specs.Core.{State, fresh, after, session_of, IsLegal, HasOut, has_out, outs, is_out, older, held}
use Rattle.step_registry.specs.CoreLaws.{IsSound, sound}
use Rattle.step_registry.specs.Rows.{has_out-other, out-counted, older_rows, rows_few, numbers-rows, length-numbers}

-- one more at the end of an ascending list
in-push : (xs : List ℕ) (y v : ℕ) → In (xs ++ y ∷ []) v → In xs v ⊎ (y ≡ v)
in-push [] y v (inl e) = inr e
in-push [] y v (inr m) = absurd m
in-push (x ∷ xs) y v (inl e) = inl (inl e)
in-push (x ∷ xs) y v (inr m) = elim (in-push xs y v m) [ inl l ↦ inl (inr l) | inr r ↦ inr r ]

asc-push : (xs : List ℕ) (y : ℕ) → Asc xs → ((v : ℕ) → In xs v → v < y) → Asc (xs ++ y ∷ [])
asc-push [] y a f = ((λ v m. absurd m), tt)
asc-push (x ∷ xs) y a f =
    ((λ v m. elim (in-push xs y v m) [ inl l ↦ a.0 v l | inr r ↦ subst (λ z. x < z) r (f x (inl refl)) ]), asc-push xs y a.1 (λ v m. f v (inr m)))

-- one of these sessions has step k out
abbrev SomeOut : List SessionState → ℕ → Type 0
SomeOut ws k = (s : ℕ) × (s < length ws) × ((slice_index_or ws s fresh).out ≡ Some k)

later : (w : SessionState) (ws : List SessionState) (k : ℕ) → SomeOut ws k → SomeOut (w ∷ ws) k
later w ws k o = (suc o.0, omega arith, o.2)

here_or_later : (w : SessionState) (ws : List SessionState) (k : ℕ) (o : Option ℕ) (b : Bool) → w.out ≡ o → (o ≡ Some k → b ≡ true) → (b ≡ true → o ≡ Some k) → (o ≢ Some k → 0 < outs k ws) → (0 < outs k ws → SomeOut ws k) → SomeOut (w ∷ ws) k
here_or_later w ws k o true e p q r more = (0, omega arith, e ∙ q refl)
here_or_later w ws k o false e p q r more = later w ws k (more (r (λ same. (let f = p same in absurd (cc)))))

abbrev is_same : Option ℕ → ℕ → Bool
is_same None k = false
is_same (Some j) k = j == k

same-true : (o : Option ℕ) (k : ℕ) → o ≡ Some k → is_same o k ≡ true
same-true None k e = absurd (cc)
same-true (Some j) k e = let is : j ≡ k = cc in eq-eqb j k is

same-is : (o : Option ℕ) (k : ℕ) → is_same o k ≡ true → o ≡ Some k
same-is None k e = absurd (cc)
same-is (Some j) k e = ap Some (eqb-true j k e)

not_here : (o : Option ℕ) (k : ℕ) → o ≢ Some k → has_out k o ≡ 0
not_here None k ne = refl
not_here (Some j) k ne = has_out-other k j (λ e. ne (ap Some (sym e)))

some_out : (ws : List SessionState) (k : ℕ) → 0 < outs k ws → SomeOut ws k
some_out [] k p = absurd (omega arith)
some_out (w ∷ ws) k p =
    here_or_later w ws k w.out (is_same w.out k) refl (same-true w.out k) (same-is w.out k)
    (λ ne. (let z = not_here w.out k ne in let all = sum_by-cons (λ (me : SessionState). has_out k me.out) w ws in omega arith)) (some_out ws k)

last_is : (x k : ℕ) → Contains (x ∷ []) k → x ≡ k
last_is x k (zero, lt, e) = e
last_is x k (suc i, lt, e) = absurd (omega arith)

held_out : (job : JobView) (st : State) (k s : ℕ) → IsSound job st → s < length st.sessions → (session_of st s).out ≡ Some k → Contains (held st) k
held_out job st k s sd lt e = by (cases_lt k st.newest)
  where
    by : (k < st.newest) ⊎ (st.newest ≤ k) → Contains (held st) k
    by (inl low) = Contains-append_left (older st) (st.newest ∷ []) k ((IsListOf-filter_range (is_out st.sessions) st.newest).every k (low, lt-ltb 0 (outs k st.sessions) (out-counted st s k lt e)))
    by (inr high) = let le = (sd.each s).out_below k e in Contains-append_right (older st) (st.newest ∷ []) k (0, omega arith, omega arith)

listed : (job : JobView) (st : State) → IsSound job st → IsListOf (λ k. (k ≡ st.newest) ⊎ HasOut job st k) (held st)
listed job st sd =
    let below = IsListOf-filter_range (is_out st.sessions) st.newest in record {
      ascending = increasing-from_Asc (older st ++ st.newest ∷ []) (asc-push (older st) st.newest (Asc-from_increasing (older st) below.ascending) (λ v m. (below.only v (Contains-from_In (older st) v m)).0));
      every = λ k w. elim w [
        | inl e ↦ Contains-append_right (older st) (st.newest ∷ []) k (0, omega arith, sym e)
        | inr o ↦ held_out job st k o.0 sd (subst (λ n. o.0 < n) (sym sd.even) o.1) o.2
      ];
      only = λ k m. elim (Contains-append_cases (older st) (st.newest ∷ []) k m) [
        | inl c ↦ (let f = below.only k c in let o = some_out st.sessions k (ltb-true 0 (outs k st.sessions) f.1) in inr (o.0, subst (λ n. o.0 < n) sd.even o.1, o.2))
        | inr c ↦ inl (sym (last_is st.newest k c))
      ];
    }

pub held_exact : (job : JobView) (h : List Event) → IsLegal job h → IsListOf (λ k. (k ≡ (after job h).newest) ⊎ HasOut job (after job h) k) (held (after job h))
held_exact job h l = listed job (after job h) (sound job h l)

pub held_fewer : (job : JobView) (h : List Event) → IsLegal job h → length (held (after job h)) ≤ length job.sessions + 1
held_fewer job h l =
    let st = after job h in let even = (sound job h l).even in let few = rows_few job st in
    let same : length (older_rows job st) ≡ length (older st) = sym (length-numbers (older_rows job st)) ∙ ap length (numbers-rows job st.sessions (older st)) in
    omega (arith, length-append (older st) (st.newest ∷ []))
