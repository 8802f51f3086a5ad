-- What the seats know of the journal at the end.
use Rattle.std.specs.Prelude.{◌≡◌, ◌⊎◌, ℕ, Bool, ◌+◌, ◌*◌, ◌/◌, ◌%◌, ◌==◌, ◌≤◌, ◌<◌, true, false, List, [], ◌∷◌, All, length, slice_index_or, None, refl}
use Rattle.std.proofs.Common.{arith, inl, inr, suc, zero, sym, ◌∙◌, ap, subst}
use Rattle.std.proofs.lemmas.Bool.{true≢false, eqb-true, eqb-false}
use Rattle.std.proofs.lemmas.List.Elements.{All-head}
use Rattle.atomic_table.specs.Seated.{TableId}
use Rattle.run_script.specs.Jobs.{JobView, turns_of, IsJob, IsTurn, steps}
use Rattle.run_script.specs.declared.job.SessionTurn.{SessionTurn}
use Rattle.step_registry.specs.Core.{turn_at, no_turn}
use Rattle.step_registry.specs.declared.event.Event.{Event}
use Rattle.step_registry.specs.declared.event.SessionState.{SessionState}
use Rattle.step_registry.specs.Laws.{RegistryView}
use Rattle.step_registry.specs.Core.{first, fresh, after, session_of, IsLegal, IsWhole}
use Rattle.step_registry.specs.CoreLaws.{get-replicate, sound}
use Rattle.step_registry.specs.SeatLaws.{bare, same_front, Says}
use Rattle.step_table.specs.Seats.{SessionView, state_of, next_turn, new_session, EachSession, Follows}
use Rattle.run_threads.specs.Ends.{IsOver, Stops, IsFresh, HasEnded, Rests, WasRefused, IsCutShort}

pub fresh_new : (lock : TableId) (job : JobView) (s : ℕ) (v : SessionView) → s < length job.sessions → v ≡ new_session lock job s → (v.session ≡ s) × IsFresh lock job v
fresh_new lock job s v lt e = subst (λ w. (w.session ≡ s) × IsFresh lock job w) (sym e) (
  refl,
  record { table = refl; job_is = refl; state = get-replicate (length job.sessions) s fresh; there = lt },
)

-- the word 2 n + 1 tells that newest is n
newest_says : (job : JobView) (h : List Event) (n : ℕ) → Says h (2 * n + 1) → (after job h).newest ≡ n
newest_says job h n says =
    let odd : (2 * n + 1) % 2 ≡ 1 = omega arith in let half : (2 * n + 1) / 2 ≡ n = omega arith in
    (same_front (first job) bare h refl refl).0 ∙ ((says.1 odd).1 ∙ half)

-- a plan that ended before the need of a turn
below : (job : JobView) (h : List Event) (need : ℕ) (words : List ℕ) → All (Says h) words → IsOver need words → (after job h).newest < need
below job h need words all over =
    let n = over.0 in let says : Says h (2 * n + 1) = All-head (Says h) (2 * n + 1) over.1 (subst (All (Says h)) over.2 all) in
    let is = newest_says job h n says in let lt = over.3 in omega arith

-- what an ended session is in a history that follows its seat
rests : (job : JobView) (h : List Event) (s : ℕ) (v : SessionView) → v.session ≡ s → v.job ≡ job → session_of (after job h) s ≡ state_of v → All (Says h) v.words
    → Stops true v ⊎ Stops false v → ((session_of (after job h) s).out ≡ None) × Rests job h s
rests job h s v es ej same all (inl stops) =
    (ap (λ (m : SessionState). m.out) same ∙ stops.0, inr (inl (ap (λ (m : SessionState). m.is_stopped) same ∙ stops.1)))
rests job h s v es ej same all (inr (out, inl done)) = (
  ap (λ (m : SessionState). m.out) same ∙ out,
  inl (ap (λ (m : SessionState). m.done) same ∙ (done ∙ (ap (λ j. length (turns_of j v.session)) ej ∙ ap (λ i. length (turns_of job i)) es))),
)
rests job h s v es ej same all (inr (out, inr over)) =
    let need : (next_turn v).need ≡ (turn_at job s (session_of (after job h) s).done).need =
    ap (λ j. (turn_at j v.session (state_of v).done).need) ej ∙ (ap (λ i. (turn_at job i (state_of v).done).need) es ∙ ap (λ (m : SessionState). (turn_at job s m.done).need) (sym same)) in
    (ap (λ (m : SessionState). m.out) same ∙ out, inr (inr (subst (λ n. (after job h).newest < n) need (below job h (next_turn v).need v.words all over))))

-- one of the first n is true, or none
any_true : (n : ℕ) (f : ℕ → Bool) → ((s : ℕ) × (s < n) × (f s ≡ true)) ⊎ ((s : ℕ) → s < n → f s ≡ false)
any_true zero f = inr (λ s lt. absurd (omega arith))
any_true (suc n) f = pick (f n) refl (any_true n f)
  where
    pick : (b : Bool) → f n ≡ b → ((s : ℕ) × (s < n) × (f s ≡ true)) ⊎ ((s : ℕ) → s < n → f s ≡ false) → ((s : ℕ) × (s < suc n) × (f s ≡ true)) ⊎ ((s : ℕ) → s < suc n → f s ≡ false)
    pick b e (inl one) = inl (one.0, omega (arith, one.1), one.2)
    pick true e (inr none) = inl (n, omega arith, e)
    pick false e (inr none) = inr (λ s lt. last s lt (s == n) refl)
      where
        last : (s : ℕ) → s < suc n → (c : Bool) → (s == n) ≡ c → f s ≡ false
        last s lt true is = ap f (eqb-true s n is) ∙ e
        last s lt false is = none s (let ne = eqb-false s n is in omega arith)

-- what is true of each item of a list, and of the default, is true at each place
at_or : {A : Type 0} (P : A → Type 0) (xs : List A) (k : ℕ) (d : A) → All P xs → P d → P (slice_index_or xs k d)
at_or P [] k d all here = here
at_or P (x ∷ xs) zero d all here = all 0 x (omega arith)
at_or P (x ∷ xs) (suc k) d all here = at_or P xs k d (λ j e lt. all (suc j) e (omega arith)) here

-- a job has the step that a turn needs
need_fits : (job : JobView) → IsJob job → (s t : ℕ) → (turn_at job s t).need ≤ steps job
need_fits job is s t =
    let n = steps job in let fit : (SessionTurn → Type 0) = λ x. x.need ≤ n in
    let mine : All (IsTurn n) (turns_of job s) = at_or (All (IsTurn n)) job.sessions s [] is.turns (λ k d lt. absurd (omega arith)) in
    at_or fit (turns_of job s) t no_turn (λ k d lt. (mine k d lt).need) (omega arith)

-- where all steps were published and no session was stopped, all turns are done
done_of : (job : JobView) (h : List Event) (s : ℕ) → IsJob job → (after job h).newest ≡ (steps job) → (session_of (after job h) s).is_stopped ≡ false → Rests job h s → (session_of (after job h) s).done ≡ length (turns_of job s)
done_of job h s fit all goes (inl done) = done
done_of job h s fit all goes (inr (inl stopped)) = absurd (true≢false (sym stopped ∙ goes))
done_of job h s fit all goes (inr (inr under)) = let le = need_fits job fit s (session_of (after job h) s).done in absurd (omega arith)

refused_of : (job : JobView) (h : List Event) → IsLegal job h → (after job h).closed ≡ true → ((s : ℕ) → s < length job.sessions → ((session_of (after job h) s).out ≡ None) × Rests job h s) → (IsWhole job h → ⊥) → IsJob job → WasRefused job h
refused_of job h legal closed each not fit = at ((after job h).newest == (steps job)) refl (any_true (length job.sessions) (λ s. (session_of (after job h) s).is_stopped))
  where
    at : (b : Bool) → ((after job h).newest == (steps job)) ≡ b → ((s : ℕ) × (s < length job.sessions) × ((session_of (after job h) s).is_stopped ≡ true)) ⊎ ((s : ℕ) → s < length job.sessions → (session_of (after job h) s).is_stopped ≡ false) → WasRefused job h
    at b is (inl one) = inr one
    at false is (inr none) = inl (let le = (sound job h legal).newest_fits in let ne = eqb-false (after job h).newest (steps job) is in omega arith)
    at true is (inr none) = let all = eqb-true (after job h).newest (steps job) is in absurd (not (record {
      legal = legal;
      newest = all;
      closed = closed;
      done = λ s lt. (done_of job h s fit all (none s lt) (each s lt).1, (each s lt).0);
    }))

-- a run whose journal isn't whole
pub cut_short : (lock : TableId) (job jobn : JobView) (r : RegistryView) (seats : List SessionView)
    → r.job ≡ job
    → jobn ≡ job
    → length seats ≡ length job.sessions
    → IsLegal r.job r.journal
    → (after r.job r.journal).closed ≡ true
    → EachSession (λ s v. (v.session ≡ s) × HasEnded lock jobn v) seats
    → EachSession (λ s v. Follows (s + 1) v.seen v.words r.journal) seats
    → EachSession (λ s v. session_of (after r.job r.journal) s ≡ state_of v) seats
    → IsJob job
    → (IsWhole r.job r.journal → ⊥)
    → IsCutShort job r.journal
cut_short lock job jobn r seats ej en len legal closed ended follows states fit not =
    let any : SessionView = new_session lock job 0 in
    let each : (s : ℕ) → s < length job.sessions → ((session_of (after job r.journal) s).out ≡ None) × Rests job r.journal s =
    λ s lt. let here : s < length seats = omega arith in let v = slice_index_or seats s any in let end = ended s any here in
    rests job r.journal s v end.0 (end.1.job_is ∙ en) (subst (λ j. session_of (after j r.journal) s ≡ state_of v) ej (states s any here)) (follows s any here).known end.1.ends in
    let open_ : IsWhole job r.journal → ⊥ = λ whole. not (subst (λ j. IsWhole j r.journal) (sym ej) whole) in
    record {
      legal = subst (λ j. IsLegal j r.journal) ej legal;
      closed = subst (λ j. (after j r.journal).closed ≡ true) ej closed;
      none_out = λ s lt. (each s lt).0;
      rests = λ s lt. (each s lt).1;
      not_whole = open_;
      refused = refused_of job r.journal (subst (λ j. IsLegal j r.journal) ej legal) (subst (λ j. (after j r.journal).closed ≡ true) ej closed) each open_ fit;
    }
