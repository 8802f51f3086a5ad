-- The answers of one session, as a report lists them.
use Rattle.std.specs.Prelude.{◌≡◌, ℕ, ◌+◌, ◌==◌, ◌<◌, ◌&&◌, Bool, true, false, cond, List, [], ◌∷◌, ◌++◌, length, refl}
use Rattle.std.specs.List.{filter}
use Rattle.std.proofs.Common.{arith, sym, ◌∙◌, ap, subst}
use Rattle.std.proofs.lemmas.List.{length-set}
use Rattle.std.proofs.lemmas.List.Elements.{filter-append}
use Rattle.std.proofs.lemmas.Bool.{eqb-true, eq-eqb}
use Rattle.mesh_base.specs.Place.{Area}
use Rattle.run_script.specs.Jobs.{JobView, turns_of}
use Rattle.mesh_base.specs.declared.answer.Answer.{Answer}
use Rattle.step_registry.specs.declared.event.Event.{Event}
use Rattle.step_registry.specs.declared.event.Event.TheVariants.{Publish, Pin, Unpin, Close}
use Rattle.step_registry.specs.Core.{State, session_of, pinned, unpinned, effect, answer_run, turn_answers, answers_by, answers_from, first_query, turn_at, answer_to}
use Rattle.step_registry.specs.SeatLaws.{unpin_done, pin_done}

-- the steps of a session's answered unpins, in order
abbrev pub steps_of : ℕ → List Event → List ℕ
steps_of s [] = []
steps_of s (Publish k ∷ es) = steps_of s es
steps_of s (Pin i k ∷ es) = steps_of s es
steps_of s (Unpin i k a ∷ es) = cond (i == s && a) (k ∷ steps_of s es) (steps_of s es)
steps_of s (Close ∷ es) = steps_of s es

-- the answers of the turns from t on, at these steps
abbrev pub turns_at : JobView → ℕ → ℕ → List ℕ → List Answer
turns_at job s t [] = []
turns_at job s t (k ∷ ks) = turn_answers job s t k ++ turns_at job s (t + 1) ks

abbrev pub of_session : ℕ → Answer → Bool
of_session s a = a.session == s

run_own : (job : JobView) (s k q : ℕ) (areas : List Area)
    → filter (of_session s) (answer_run job s k q areas) ≡ answer_run job s k q areas
run_own job s k q [] = refl
run_own job s k q (x ∷ xs) =
    let rest = run_own job s k (q + 1) xs in
    ap (λ b. cond b (answer_to job s q k x ∷ filter (of_session s) (answer_run job s k (q + 1) xs)) (filter (of_session s) (answer_run job s k (q + 1) xs))) (eq-eqb s s refl) ∙ ap (λ l. answer_to job s q k x ∷ l) rest

run_other : (job : JobView) (s i k q : ℕ) (areas : List Area) → (i == s) ≡ false
    → filter (of_session s) (answer_run job i k q areas) ≡ []
run_other job s i k q [] e = refl
run_other job s i k q (x ∷ xs) e =
    ap (λ b. cond b (answer_to job i q k x ∷ filter (of_session s) (answer_run job i k (q + 1) xs)) (filter (of_session s) (answer_run job i k (q + 1) xs))) e ∙ run_other job s i k (q + 1) xs e

unpin_line : (job : JobView) (st : State) (i s k : ℕ) (a b : Bool) (ks : List ℕ) → (i == s) ≡ b
    → s < length st.sessions → filter (of_session s) (answers_by job st (Unpin i k a))
    ++ turns_at job s (session_of (effect st (Unpin i k a)) s).done ks
    ≡ turns_at job s (session_of st s).done (cond (b && a) (k ∷ ks) ks)
unpin_line job st i s k true true ks e lt =
    let is : i ≡ s = eqb-true i s e in let d = (session_of st s).done in let step : (session_of (effect st (Unpin i k true)) s).done ≡ d + 1 = unpin_done st i s k true true e lt in
    let own = subst (λ j. filter (of_session s) (turn_answers job j (session_of st j).done k) ≡ turn_answers job s d k) (sym is) (run_own job s k (first_query (turns_of job s) d) (turn_at job s d).areas) in
    ap (λ l. l ++ turns_at job s (session_of (effect st (Unpin i k true)) s).done ks) own ∙ ap (λ n. turn_answers job s d k ++ turns_at job s n ks) step
unpin_line job st i s k true false ks e lt =
    let d = (session_of st i).done in let step = unpin_done st i s k true false e lt in let same : (session_of (effect st (Unpin i k true)) s).done ≡ (session_of st s).done = omega arith in
    ap (λ l. l ++ turns_at job s (session_of (effect st (Unpin i k true)) s).done ks) (run_other job s i k (first_query (turns_of job i) d) (turn_at job i d).areas e) ∙ ap (λ n. turns_at job s n ks) same
unpin_line job st i s k false true ks e lt =
    let step = unpin_done st i s k false true e lt in let same : (session_of (effect st (Unpin i k false)) s).done ≡ (session_of st s).done = omega arith in ap (λ n. turns_at job s n ks) same
unpin_line job st i s k false false ks e lt =
    let step = unpin_done st i s k false false e lt in let same : (session_of (effect st (Unpin i k false)) s).done ≡ (session_of st s).done = omega arith in ap (λ n. turns_at job s n ks) same

-- the answers of one session are those of its turns, in order, at the steps of its answered unpins
pub session_answers : (job : JobView) (st : State) (s : ℕ) (h : List Event) → s < length st.sessions
    → filter (of_session s) (answers_from job st h) ≡ turns_at job s (session_of st s).done (steps_of s h)
session_answers job st s [] lt = refl
session_answers job st s (Publish k ∷ es) lt = session_answers job (effect st (Publish k)) s es lt
session_answers job st s (Close ∷ es) lt = session_answers job (effect st Close) s es lt
session_answers job st s (Pin i k ∷ es) lt =
    let n = length-set st.sessions i (pinned k (session_of st i)) in
    session_answers job (effect st (Pin i k)) s es (omega arith) ∙ ap (λ d. turns_at job s d (steps_of s es)) (pin_done st i s k (i == s) refl lt)
session_answers job st s (Unpin i k a ∷ es) lt =
    let n = length-set st.sessions i (unpinned a (session_of st i)) in let more = session_answers job (effect st (Unpin i k a)) s es (omega arith) in
    filter-append (of_session s) (answers_by job st (Unpin i k a)) (answers_from job (effect st (Unpin i k a)) es)
    ∙ (ap (λ l. filter (of_session s) (answers_by job st (Unpin i k a)) ++ l) more ∙ unpin_line job st i s k a (i == s) (steps_of s es) refl lt)
