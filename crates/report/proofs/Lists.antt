-- The answers that a report lists.
use Rattle.std.proofs.Common.{◌≡◌, ℕ, suc, ◌+◌, ◌<◌, ◌≤◌, Bool, true, false, cond, List, [], ◌∷◌, ◌++◌, length, refl, sym, ap, ◌∙◌, subst, arith, ◌-◌, map}
use Rattle.std.specs.Prelude.{◌==◌, ◌&&◌, All, Contains, slice_index_or}
use Rattle.std.specs.List.{AllByRecursion, sum_by, range_with_len}
use Rattle.std.proofs.lemmas.List.{map-append, take_all}
use Rattle.std.proofs.lemmas.List.Sums.{sum_by-cons, sum_by_more, sum_by-take-le}
use Rattle.std.proofs.lemmas.List.Elements.{All-cons, All-append}
use Rattle.mesh_base.specs.Place.{Area}
use Rattle.mesh_base.specs.Scan.{scan}
use Rattle.mesh_base.specs.Parts.{IsCovered}
use Rattle.mesh_base.specs.Answer.{route, answer}
use Rattle.mesh_base.proofs.AnswerLaws.{answer_increasing, answer_in, answer_complete}
use Rattle.mesh_base.proofs.JoinedLaws.{answer_is}
use Rattle.run_script.specs.Jobs.{JobView, steps, turns_of, box_count, step_at}
use Rattle.mesh_base.specs.declared.answer.Answer.{Answer}
use Rattle.run_script.specs.declared.job.SessionTurn.{SessionTurn}
use Rattle.report.proofs.Ranges.{range_split}
use Rattle.step_registry.specs.declared.event.Event.{Event}
use Rattle.step_registry.specs.declared.event.Event.TheVariants.{Publish, Pin, Unpin, Close}
use Rattle.step_registry.specs.Core.{State, no_turn, turn_at, fresh, first, session_of, effect, LegalFrom, IsWhole, first_query, answer_run, turn_answers}
use Rattle.step_registry.specs.CoreLaws.{IsSound, first-sound, step-sound, get-replicate}
use Rattle.step_registry.specs.SeatLaws.{answered_by, done_counts}
use Rattle.step_registry.specs.Runs.{no_area, area_at, turn_area}
use Rattle.step_registry.specs.Lines.{turns_at, steps_of}
use Rattle.report.specs.Headline.{IsTrueAnswer, AnswersAreTrue, query_of, BoxesInOrder}

-- the answer of a box at a step
abbrev pub answer_here : JobView → ℕ → ℕ → ℕ → Area → Answer
answer_here job s q k x = record { session = s; query = q; step = k; route = route (step_at job k) x; vertices = answer (step_at job k) x }

-- one answer
one-true : (job : JobView) (s q k : ℕ) (x : Area) → k ≤ steps job → area_at (turns_of job s) q ≡ x → IsTrueAnswer job (answer_here job s q k x)
one-true job s q k x le at =
    let mesh = step_at job k in let is = answer_is mesh x (route mesh x) in
    record {
      published = le;
      ascending = answer_increasing mesh x (route mesh x) (answer mesh x) is;
      inside = λ v c. subst (λ y. Contains (scan mesh y) v) (sym at) (answer_in mesh x (route mesh x) (answer mesh x) is v c);
      covered = λ c. answer_complete mesh x (route mesh x) (answer mesh x) (refl, is) (subst (IsCovered mesh) at c) ∙ ap (scan mesh) (sym at);
    }

-- the answers of boxes that stand one after another among a session's boxes
run-true : (job : JobView) (s k q : ℕ) (xs : List Area) → k ≤ steps job → ((i : ℕ) → i < length xs → area_at (turns_of job s) (q + i) ≡ slice_index_or xs i no_area) → All (IsTrueAnswer job) (answer_run job s k q xs)
run-true job s k q [] le at = λ i d lt. absurd (omega arith)
run-true job s k q (x ∷ xs) le at =
    let z : q + 0 ≡ q = omega arith in
    All-cons (IsTrueAnswer job) (answer_here job s q k x) (answer_run job s k (q + 1) xs)
    (one-true job s q k x le (ap (area_at (turns_of job s)) (sym z) ∙ at 0 (omega arith)))
    (run-true job s k (q + 1) xs le (λ i lt. let z : (q + 1) + i ≡ q + suc i = omega arith in ap (area_at (turns_of job s)) z ∙ at (suc i) (omega arith)))

turns-true : (job : JobView) (s t : ℕ) (ks : List ℕ) → t + length ks ≤ length (turns_of job s) → AllByRecursion (λ k. k ≤ steps job) ks → All (IsTrueAnswer job) (turns_at job s t ks)
turns-true job s t [] le fit = λ i d lt. absurd (omega arith)
turns-true job s t (k ∷ ks) le fit =
    All-append (IsTrueAnswer job) (turn_answers job s t k) (turns_at job s (t + 1) ks)
    (run-true job s k (first_query (turns_of job s) t) (turn_at job s t).areas fit.0 (λ i lt. turn_area (turns_of job s) t i (omega arith) lt))
    (turns-true job s (t + 1) ks (omega arith) fit.1)

-- each step of an answered unpin was published
steps-unpin : (P : ℕ → Type 0) (b : Bool) (k : ℕ) (ks : List ℕ) → P k → AllByRecursion P ks → AllByRecursion P (cond b (k ∷ ks) ks)
steps-unpin P true k ks p all = (p, all)
steps-unpin P false k ks p all = all

steps-fit : (job : JobView) (st : State) (s : ℕ) (h : List Event) → IsSound job st → LegalFrom job st h → AllByRecursion (λ k. k ≤ steps job) (steps_of s h)
steps-fit job st s [] sd l = tt
steps-fit job st s (Publish k ∷ es) sd l = steps-fit job (effect st (Publish k)) s es (step-sound job st (Publish k) sd l.0) l.1
steps-fit job st s (Pin i k ∷ es) sd l = steps-fit job (effect st (Pin i k)) s es (step-sound job st (Pin i k) sd l.0) l.1
steps-fit job st s (Close ∷ es) sd l = steps-fit job (effect st Close) s es (step-sound job st Close sd l.0) l.1
steps-fit job st s (Unpin i k a ∷ es) sd l =
    let a1 = (sd.each i).out_below k l.0.1 in let a2 = sd.newest_fits in
    steps-unpin (λ j. j ≤ steps job) (i == s && a) k (steps_of s es) (omega arith) (steps-fit job (effect st (Unpin i k a)) s es (step-sound job st (Unpin i k a) sd l.0) l.1)

-- there are as many of them as the session has turns
count-unpin : (b : Bool) (k n : ℕ) (ks : List ℕ) → length ks ≡ n → length (cond b (k ∷ ks) ks) ≡ cond b 1 0 + n
count-unpin true k n ks e = omega arith
count-unpin false k n ks e = omega arith

pub length-steps : (s : ℕ) (h : List Event) → length (steps_of s h) ≡ sum_by (answered_by s) h
length-steps s [] = refl
length-steps s (Publish k ∷ es) = omega (arith, length-steps s es, sum_by-cons (answered_by s) (Publish k) es)
length-steps s (Pin i k ∷ es) = omega (arith, length-steps s es, sum_by-cons (answered_by s) (Pin i k) es)
length-steps s (Close ∷ es) = omega (arith, length-steps s es, sum_by-cons (answered_by s) Close es)
length-steps s (Unpin i k a ∷ es) =
    let more = length-steps s es in let c = count-unpin (i == s && a) k (sum_by (answered_by s) es) (steps_of s es) more in
    omega (arith, c, sum_by-cons (answered_by s) (Unpin i k a) es)

pub steps-count : (job : JobView) (h : List Event) (s : ℕ) → IsWhole job h → s < length job.sessions → length (steps_of s h) ≡ length (turns_of job s)
steps-count job h s w lt =
    let even = (first-sound job).even in let all = done_counts (first job) s h (omega arith) in
    let start : (session_of (first job) s).done ≡ 0 = ap (λ me. me.done) (get-replicate (length job.sessions) s fresh) in
    let done = (w.done s lt).0 in let len = length-steps s h in omega arith

pub answers-are-true : (job : JobView) (h : List Event) → IsWhole job h → AnswersAreTrue job h
answers-are-true job h w s lt =
    let n = steps-count job h s w lt in turns-true job s 0 (steps_of s h) (omega arith) (steps-fit job (first job) s h (first-sound job) w.legal)

-- ---- the boxes in order

run-queries : (job : JobView) (s k q : ℕ) (xs : List Area) → map query_of (answer_run job s k q xs) ≡ range_with_len q (length xs)
run-queries job s k q [] = refl
run-queries job s k q (x ∷ xs) = ap (λ l. q ∷ l) (run-queries job s k (q + 1) xs)

turns-queries : (job : JobView) (s t n : ℕ) (ks : List ℕ) → t + length ks ≡ length (turns_of job s) → first_query (turns_of job s) t + n ≡ box_count (turns_of job s)
    → map query_of (turns_at job s t ks) ≡ range_with_len (first_query (turns_of job s) t) n
turns-queries job s t n [] len sum =
    let turns = turns_of job s in
    let all : first_query turns t ≡ box_count turns = ap (λ l. box_count l) (take_all t turns (omega arith)) in
    let zero_left : n ≡ 0 = omega arith in ap (range_with_len (first_query turns t)) (sym zero_left)
turns-queries job s t n (k ∷ ks) len sum =
    let turns = turns_of job s in let q = first_query turns t in let m = length (turn_at job s t).areas in
    let next : first_query turns (t + 1) ≡ q + m = sum_by_more (λ turn. length turn.areas) turns t no_turn (omega arith) in
    let part = sum_by-take-le (λ (turn : SessionTurn). length turn.areas) turns (t + 1) in
    let rest : first_query turns (t + 1) + (n - m) ≡ box_count turns = omega arith in
    let cut : n ≡ m + (n - m) = omega arith in
    map-append query_of (turn_answers job s t k) (turns_at job s (t + 1) ks)
    ∙ (ap (λ l. l ++ map query_of (turns_at job s (t + 1) ks)) (run-queries job s k q (turn_at job s t).areas)
    ∙ (ap (λ l. range_with_len q m ++ l) (turns-queries job s (t + 1) (n - m) ks (omega arith) rest ∙ ap (λ a. range_with_len a (n - m)) next)
    ∙ (sym (range_split q m (n - m)) ∙ ap (range_with_len q) (sym cut))))

pub boxes-in-order : (job : JobView) (h : List Event) → IsWhole job h → BoxesInOrder job h
boxes-in-order job h w s lt = turns-queries job s 0 (box_count (turns_of job s)) (steps_of s h) (let n = steps-count job h s w lt in omega arith) (omega arith)
