-- Laws over the core's definitions.
use Rattle.std.specs.Prelude.{◌≡◌, ℕ, ◌+◌, ◌*◌, ◌≤◌, ◌<◌, Bool, true, false, cond, List, [], ◌∷◌, ◌++◌, length, replicate, slice_index_or, slice_set, Option, Some, None, refl}
use Rattle.std.specs.List.{sum_by}
use Rattle.std.proofs.Common.{arith, suc, zero, sym, ◌∙◌, ap, subst, le_refl, length-append, append_assoc}
use Rattle.std.proofs.lemmas.List.{length-set}
use Rattle.std.proofs.lemmas.List.Sums.{sum_by-set, sum_by-cons, sum_by-take-le, sum_by_more}
use Rattle.std.proofs.lemmas.Bool.{true≢false}
use Rattle.mesh_base.specs.Place.{Area}
use Rattle.run_script.specs.Jobs.{JobView, steps, turns_of, turn_count, all_boxes}
use Rattle.run_script.specs.declared.job.SessionTurn.{SessionTurn}
use Rattle.step_registry.specs.declared.event.Event.{Event}
use Rattle.step_registry.specs.declared.event.Event.TheVariants.{Publish, Pin, Unpin, Close}
use Rattle.step_registry.specs.declared.event.SessionState.{SessionState}
use Rattle.step_registry.specs.Core.{State, fresh, first, session_of, with_session, pinned, unpinned, effect, CanHappen, after_from, LegalFrom, after, IsLegal, first_query, answer_run, answers_by, answers_from, answers_of, turn_at, no_turn}

-- one history after another
pub after-append : (st : State) (g h : List Event) → after_from st (g ++ h) ≡ after_from (after_from st g) h
after-append st [] h = refl
after-append st (e ∷ es) h = after-append (effect st e) es h

pub legal_part : (job : JobView) (st : State) (g h : List Event) → LegalFrom job st (g ++ h) → LegalFrom job st g
legal_part job st [] h l = tt
legal_part job st (e ∷ es) h l = (l.0, legal_part job (effect st e) es h l.1)

pub legal_rest : (job : JobView) (st : State) (g h : List Event) → LegalFrom job st (g ++ h)
    → LegalFrom job (after_from st g) h
legal_rest job st [] h l = l
legal_rest job st (e ∷ es) h l = legal_rest job (effect st e) es h l.1

pub legal-append : (job : JobView) (st : State) (g h : List Event) → LegalFrom job st g
    → LegalFrom job (after_from st g) h → LegalFrom job st (g ++ h)
legal-append job st [] h l m = m
legal-append job st (e ∷ es) h l m = (l.0, legal-append job (effect st e) es h l.1 m)

pub legal_more : (job : JobView) (h : List Event) (e : Event) → IsLegal job h → CanHappen job (after job h) e
    → IsLegal job (h ++ e ∷ [])
legal_more job h e l can = legal-append job (first job) h (e ∷ []) l (can, tt)

pub answers-append : (job : JobView) (st : State) (g h : List Event)
    → answers_from job st (g ++ h) ≡ answers_from job st g ++ answers_from job (after_from st g) h
answers-append job st [] h = refl
answers-append job st (e ∷ es) h = ap (λ l. answers_by job st e ++ l) (answers-append job (effect st e) es h) ∙ sym (append_assoc (answers_by job st e) (answers_from job (effect st e) es) (answers_from job (after_from (effect st e) es) h))

-- newest never falls
pub rises : (job : JobView) (st : State) (h : List Event) → LegalFrom job st h → st.newest ≤ (after_from st h).newest
rises job st [] l = le_refl st.newest
rises job st (Publish k ∷ es) l = let up : k ≡ st.newest + 1 = l.0.0 in let more = rises job (effect st (Publish k)) es l.1 in omega arith
rises job st (Pin s k ∷ es) l = rises job (effect st (Pin s k)) es l.1
rises job st (Unpin s k a ∷ es) l = rises job (effect st (Unpin s k a)) es l.1
rises job st (Close ∷ es) l = rises job (effect st Close) es l.1

-- what is true of a session that a legal history leads to
pub record IsFine (turns : List SessionTurn) (newest : ℕ) (me : SessionState) : Type 0 where
  pub done_fits : me.done ≤ length turns
  pub out_below : (k : ℕ) → me.out ≡ Some k → k ≤ newest
  pub out_goes : (k : ℕ) → me.out ≡ Some k → (me.done < length turns) × (me.is_stopped ≡ false)
  pub stopped_fits : me.is_stopped ≡ true → me.done < length turns

pub record IsSound (job : JobView) (st : State) : Type 0 where
  pub even : length st.sessions ≡ length job.sessions
  pub newest_fits : st.newest ≤ steps job
  pub each : (s : ℕ) → IsFine (turns_of job s) st.newest (session_of st s)

fresh-fine : (turns : List SessionTurn) (newest : ℕ) → IsFine turns newest fresh
fresh-fine turns newest = record { done_fits = omega arith; out_below = λ k e. cc; out_goes = λ k e. cc; stopped_fits = λ e. cc }

pub get-replicate : {X : Type 0} (n s : ℕ) (x : X) → slice_index_or (replicate n x) s x ≡ x
get-replicate zero s x = refl
get-replicate (suc n) zero x = refl
get-replicate (suc n) (suc s) x = get-replicate n s x

length-replicated : {X : Type 0} (n : ℕ) (x : X) → length (replicate n x) ≡ n
length-replicated zero x = refl
length-replicated (suc n) x = ap suc (length-replicated n x)

pub first-sound : (job : JobView) → IsSound job (first job)
first-sound job = record {
  even = length-replicated (length job.sessions) fresh;
  newest_fits = omega arith;
  each = λ s. subst (IsFine (turns_of job s) 0) (sym (get-replicate (length job.sessions) s fresh)) (fresh-fine (turns_of job s) 0);
}

-- a list with one element replaced: what holds of each
pub each_set : (P : ℕ → SessionState → Type 0) (xs : List SessionState) (s : ℕ) (y : SessionState) → s < length xs
    → ((i : ℕ) → P i (slice_index_or xs i fresh)) → P s y → (i : ℕ) → P i (slice_index_or (slice_set xs s y) i fresh)
each_set P [] s y lt each here i = absurd (omega arith)
each_set P (x ∷ xs) zero y lt each here zero = here
each_set P (x ∷ xs) zero y lt each here (suc i) = each (suc i)
each_set P (x ∷ xs) (suc s) y lt each here zero = each zero
each_set P (x ∷ xs) (suc s) y lt each here (suc i) = each_set (λ j z. P (suc j) z) xs s y (omega arith) (λ j. each (suc j)) here i

set-sound : (job : JobView) (st : State) (s : ℕ) (me : SessionState) → IsSound job st → s < length job.sessions
    → IsFine (turns_of job s) st.newest me → IsSound job (with_session st s me)
set-sound job st s me sound lt fine = record {
  even = length-set st.sessions s me ∙ sound.even;
  newest_fits = sound.newest_fits;
  each = each_set (λ i z. IsFine (turns_of job i) st.newest z) st.sessions s me (subst (λ n. s < n) (sym sound.even) lt) sound.each fine;
}

pinned-fine : (turns : List SessionTurn) (newest : ℕ) (me : SessionState) → IsFine turns newest me
    → me.is_stopped ≡ false → me.done < length turns → IsFine turns newest (pinned newest me)
pinned-fine turns newest me fine going left = record {
  done_fits = fine.done_fits;
  out_below = λ k e. let same : newest ≡ k = cc in omega arith;
  out_goes = λ k e. (left, going);
  stopped_fits = fine.stopped_fits;
}

unpinned-fine : (turns : List SessionTurn) (newest k : ℕ) (answered : Bool) (me : SessionState)
    → IsFine turns newest me → me.out ≡ Some k → IsFine turns newest (unpinned answered me)
unpinned-fine turns newest k true me fine e = let goes : (me.done < length turns) × (me.is_stopped ≡ false) = fine.out_goes k e in record {
  done_fits = omega (arith, goes.0);
  out_below = λ j n. cc;
  out_goes = λ j n. cc;
  stopped_fits = λ stopped. absurd (true≢false (sym stopped ∙ goes.1));
}
unpinned-fine turns newest k false me fine e = let goes : (me.done < length turns) × (me.is_stopped ≡ false) = fine.out_goes k e in record {
  done_fits = fine.done_fits;
  out_below = λ j n. cc;
  out_goes = λ j n. cc;
  stopped_fits = λ stopped. goes.0;
}

raised-fine : (turns : List SessionTurn) (newest up : ℕ) (me : SessionState) → newest ≤ up → IsFine turns newest me
    → IsFine turns up me
raised-fine turns newest up me le fine = record {
  done_fits = fine.done_fits;
  out_below = λ k e. let b = fine.out_below k e in omega arith;
  out_goes = fine.out_goes;
  stopped_fits = fine.stopped_fits;
}

-- each event keeps a state sound
pub step-sound : (job : JobView) (st : State) (e : Event) → IsSound job st → CanHappen job st e
    → IsSound job (effect st e)
step-sound job st (Publish k) sound can = record {
  even = sound.even;
  newest_fits = can.1;
  each = λ s. raised-fine (turns_of job s) st.newest k (session_of st s) (let up = can.0 in omega arith) (sound.each s);
}
step-sound job st (Pin s k) sound can = set-sound job st s (pinned k (session_of st s)) sound can.0 (subst (λ j. IsFine (turns_of job s) st.newest (pinned j (session_of st s))) (sym can.5) (pinned-fine (turns_of job s) st.newest (session_of st s) (sound.each s) can.2 can.3))
step-sound job st (Unpin s k a) sound can = set-sound job st s (unpinned a (session_of st s)) sound can.0
    (unpinned-fine (turns_of job s) st.newest k a (session_of st s) (sound.each s) can.1)
step-sound job st Close sound can = record { even = sound.even; newest_fits = sound.newest_fits; each = sound.each }

pub sound_from : (job : JobView) (st : State) (h : List Event) → IsSound job st → LegalFrom job st h
    → IsSound job (after_from st h)
sound_from job st [] sound l = sound
sound_from job st (e ∷ es) sound l = sound_from job (effect st e) es (step-sound job st e sound l.0) l.1

pub sound : (job : JobView) (h : List Event) → IsLegal job h → IsSound job (after job h)
sound job h l = sound_from job (first job) h (first-sound job) l

-- how many events a state stands for
abbrev pub out_weight : Option ℕ → ℕ
out_weight None = 0
out_weight (Some k) = 1

abbrev pub stop_weight : Bool → ℕ
stop_weight true = 2
stop_weight false = 0

abbrev pub weight : SessionState → ℕ
weight me = 2 * me.done + out_weight me.out + stop_weight me.is_stopped

abbrev pub one_if : Bool → ℕ
one_if true = 1
one_if false = 0

abbrev pub spent : State → ℕ
spent st = st.newest + one_if st.closed + sum_by weight st.sessions

set-weights : (st : State) (s : ℕ) (me : SessionState) → s < length st.sessions
    → weight me ≡ weight (session_of st s) + 1 → sum_by weight (slice_set st.sessions s me)
    ≡ sum_by weight st.sessions + 1
set-weights st s me lt e = let moved = sum_by-set weight st.sessions s me fresh lt in omega arith

pinned-weight : (done k : ℕ) (o : Option ℕ) (stopped : Bool) → o ≡ None
    → 2 * done + 1 + stop_weight stopped ≡ (2 * done + out_weight o + stop_weight stopped) + 1
pinned-weight done k o stopped e = let z : out_weight o ≡ 0 = ap out_weight e in omega arith

unpinned-weight : (done k : ℕ) (o : Option ℕ) (stopped answered : Bool) → o ≡ Some k → stopped ≡ false
    → 2 * cond answered (done + 1) done + 0 + stop_weight (cond answered stopped true)
    ≡ (2 * done + out_weight o + stop_weight stopped) + 1
unpinned-weight done k o stopped true e going = let z : out_weight o ≡ 1 = ap out_weight e in let y : stop_weight stopped ≡ 0 = ap stop_weight going in omega arith
unpinned-weight done k o stopped false e going = let z : out_weight o ≡ 1 = ap out_weight e in let y : stop_weight stopped ≡ 0 = ap stop_weight going in omega arith

step-spent : (job : JobView) (st : State) (e : Event) → IsSound job st → CanHappen job st e
    → spent (effect st e) ≡ spent st + 1
step-spent job st (Publish k) sound can = let up : k ≡ st.newest + 1 = can.0 in omega arith
step-spent job st (Pin s k) sound can =
    let me = session_of st s in let w : weight (pinned k me) ≡ weight me + 1 = pinned-weight me.done k me.out me.is_stopped can.1 in
    let lt : s < length st.sessions = subst (λ n. s < n) (sym sound.even) can.0 in
    let more = set-weights st s (pinned k me) lt w in omega arith
step-spent job st (Unpin s k a) sound can =
    let me = session_of st s in let going : me.is_stopped ≡ false = ((sound.each s).out_goes k can.1).1 in
    let w : weight (unpinned a me) ≡ weight me + 1 = unpinned-weight me.done k me.out me.is_stopped a can.1 going in
    let lt : s < length st.sessions = subst (λ n. s < n) (sym sound.even) can.0 in
    let more = set-weights st s (unpinned a me) lt w in omega arith
step-spent job st Close sound can = let z : one_if st.closed ≡ 0 = ap one_if can in omega arith

spent_from : (job : JobView) (st : State) (h : List Event) → IsSound job st → LegalFrom job st h
    → spent (after_from st h) ≡ spent st + length h
spent_from job st [] sound l = omega arith
spent_from job st (e ∷ es) sound l =
    let step = step-spent job st e sound l.0 in
    let more = spent_from job (effect st e) es (step-sound job st e sound l.0) l.1 in omega arith

weight-fits : (n done : ℕ) (o : Option ℕ) (stopped : Bool) → done ≤ n
    → ((k : ℕ) → o ≡ Some k → (done < n) × (stopped ≡ false)) → (stopped ≡ true → done < n)
    → 2 * done + out_weight o + stop_weight stopped ≤ 2 * n
weight-fits n done None true le goes low = let lt = low refl in omega arith
weight-fits n done None false le goes low = omega arith
weight-fits n done (Some k) true le goes low = absurd (true≢false ((goes k refl).1))
weight-fits n done (Some k) false le goes low = let lt = (goes k refl).0 in omega arith

pub sum-le : (f : SessionState → ℕ) (g : List SessionTurn → ℕ) (ws : List SessionState)
    (ts : List (List SessionTurn)) → length ws ≡ length ts
    → ((i : ℕ) → f (slice_index_or ws i fresh) ≤ g (slice_index_or ts i [])) → sum_by f ws ≤ sum_by g ts
sum-le f g [] [] e each = omega arith
sum-le f g [] (t ∷ ts) e each = absurd (omega arith)
sum-le f g (w ∷ ws) [] e each = absurd (omega arith)
sum-le f g (w ∷ ws) (t ∷ ts) e each =
    let here : f w ≤ g t = each 0 in let more = sum-le f g ws ts (omega arith) (λ i. each (suc i)) in
    omega (arith, sum_by-cons f w ws, sum_by-cons g t ts)

doubled : (ts : List (List SessionTurn)) → sum_by (λ t. 2 * length t) ts ≡ 2 * sum_by length ts
doubled [] = refl
doubled (t ∷ ts) = omega (arith, doubled ts, sum_by-cons (λ x. 2 * length x) t ts, sum_by-cons length t ts)

first-weights : (n : ℕ) → sum_by weight (replicate n fresh) ≡ 0
first-weights zero = refl
first-weights (suc n) = omega (arith, sum_by-cons weight fresh (replicate n fresh), first-weights n)

-- a legal history is no longer than this
abbrev pub most_events : JobView → ℕ
most_events job = steps job + 2 * turn_count job + 1

closed-fits : (b : Bool) → one_if b ≤ 1
closed-fits true = omega arith
closed-fits false = omega arith

pub length_fits : (job : JobView) (h : List Event) → IsLegal job h → length h ≤ most_events job
length_fits job h l =
    let so = sound job h l in let all = spent_from job (first job) h (first-sound job) l in
    let zero_weights = first-weights (length job.sessions) in let none : spent (first job) ≡ 0 = omega arith in
    let fits = sum-le weight (λ t. 2 * length t) (after job h).sessions job.sessions so.even (λ i. let f = so.each i in weight-fits (length (turns_of job i)) (session_of (after job h) i).done (session_of (after job h) i).out (session_of (after job h) i).is_stopped f.done_fits f.out_goes f.stopped_fits) in
    let two = doubled job.sessions in let new = so.newest_fits in let cl = closed-fits (after job h).closed in omega arith

-- the areas of the turns that are done
abbrev pub areas_done : List SessionState → List (List SessionTurn) → ℕ
areas_done [] ts = 0
areas_done (w ∷ ws) [] = 0
areas_done (w ∷ ws) (t ∷ ts) = first_query t w.done + areas_done ws ts

areas_done-set : (ws : List SessionState) (ts : List (List SessionTurn)) (s : ℕ) (me : SessionState) → s < length ws
    → length ws ≡ length ts → areas_done (slice_set ws s me) ts
    + first_query (slice_index_or ts s []) (slice_index_or ws s fresh).done
    ≡ areas_done ws ts + first_query (slice_index_or ts s []) me.done
areas_done-set [] ts s me lt e = absurd (omega arith)
areas_done-set (w ∷ ws) [] s me lt e = absurd (omega arith)
areas_done-set (w ∷ ws) (t ∷ ts) zero me lt e = omega arith
areas_done-set (w ∷ ws) (t ∷ ts) (suc s) me lt e = let more = areas_done-set ws ts s me (omega arith) (omega arith) in omega arith

areas_done-le : (ws : List SessionState) (ts : List (List SessionTurn))
    → areas_done ws ts ≤ sum_by (λ turns. sum_by (λ t. length t.areas) turns) ts
areas_done-le [] ts = omega arith
areas_done-le (w ∷ ws) [] = omega arith
areas_done-le (w ∷ ws) (t ∷ ts) = omega (arith, areas_done-le ws ts, sum_by-take-le (λ x. length x.areas) t w.done, sum_by-cons (λ turns. sum_by (λ x. length x.areas) turns) t ts)

areas_done-first : (n : ℕ) (ts : List (List SessionTurn)) → areas_done (replicate n fresh) ts ≡ 0
areas_done-first zero ts = refl
areas_done-first (suc n) [] = refl
areas_done-first (suc n) (t ∷ ts) = let more = areas_done-first n ts in omega arith

pub length-answer_run : (job : JobView) (s k q : ℕ) (areas : List Area)
    → length (answer_run job s k q areas) ≡ length areas
length-answer_run job s k q [] = refl
length-answer_run job s k q (a ∷ areas) = ap suc (length-answer_run job s k (q + 1) areas)

step-areas : (job : JobView) (st : State) (e : Event) → IsSound job st → CanHappen job st e
    → areas_done (effect st e).sessions job.sessions
    ≡ areas_done st.sessions job.sessions + length (answers_by job st e)
step-areas job st (Publish k) sound can = omega arith
step-areas job st (Pin s k) sound can =
    let lt : s < length st.sessions = subst (λ n. s < n) (sym sound.even) can.0 in
    let moved = areas_done-set st.sessions job.sessions s (pinned k (session_of st s)) lt sound.even in omega arith
step-areas job st (Unpin s k true) sound can =
    let lt : s < length st.sessions = subst (λ n. s < n) (sym sound.even) can.0 in let me = session_of st s in
    let moved = areas_done-set st.sessions job.sessions s (unpinned true me) lt sound.even in
    let left : me.done < length (turns_of job s) = ((sound.each s).out_goes k can.1).0 in
    let one = sum_by_more (λ t. length t.areas) (turns_of job s) me.done no_turn left in
    let run = length-answer_run job s k (first_query (turns_of job s) me.done) (turn_at job s me.done).areas in omega arith
step-areas job st (Unpin s k false) sound can =
    let lt : s < length st.sessions = subst (λ n. s < n) (sym sound.even) can.0 in
    let moved = areas_done-set st.sessions job.sessions s (unpinned false (session_of st s)) lt sound.even in omega arith
step-areas job st Close sound can = omega arith

areas_from : (job : JobView) (st : State) (h : List Event) → IsSound job st → LegalFrom job st h
    → areas_done (after_from st h).sessions job.sessions
    ≡ areas_done st.sessions job.sessions + length (answers_from job st h)
areas_from job st [] sound l = omega arith
areas_from job st (e ∷ es) sound l =
    let step = step-areas job st e sound l.0 in
    let more = areas_from job (effect st e) es (step-sound job st e sound l.0) l.1 in
    omega (arith, length-append (answers_by job st e) (answers_from job (effect st e) es))

-- a legal history has at most as many answers as the job has areas
pub answers_fit : (job : JobView) (h : List Event) → IsLegal job h → length (answers_of job h) ≤ all_boxes job
answers_fit job h l =
    let all = areas_from job (first job) h (first-sound job) l in
    let none = areas_done-first (length job.sessions) job.sessions in
    let fits = areas_done-le (after job h).sessions job.sessions in omega arith
