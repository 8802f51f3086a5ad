-- The answers of a turn, and where its boxes stand.
use Rattle.std.specs.Prelude.{◌≡◌, ℕ, ◌+◌, ◌≤◌, ◌<◌, List, [], ◌∷◌, ◌++◌, length, take, slice_index_or}
use Rattle.std.proofs.Common.{arith, sym, ◌∙◌, ap}
use Rattle.std.proofs.lemmas.List.Sums.{sum_by_more, sum_by-take-le}
use Rattle.mesh_base.specs.Place.{Area}
use Rattle.mesh_base.specs.declared.answer.Answer.{Answer}
use Rattle.mesh_base.specs.declared.answer.Route.{Route}
use Rattle.run_script.specs.Jobs.{JobView, box_count}
use Rattle.run_script.specs.declared.job.SessionTurn.{SessionTurn}
use Rattle.step_registry.specs.Core.{no_turn, route_of, answer_of, answer_to, answer_run, first_query}
use Rattle.step_registry.specs.Runs.{no_area, run-more}

abbrev pub given : ℕ → ℕ → ℕ → Route → List ℕ → Answer
given s q k r vs = record { session = s; query = q; step = k; route = r; vertices = vs }

-- one answer more
pub run_next : (job : JobView) (s k q i : ℕ) (areas : List Area) (items itemsn : List Answer) (ss qq kk : ℕ) (r : Route) (vs : List ℕ) → i < length areas
    → items ≡ answer_run job s k q (take i areas)
    → ss ≡ s → qq ≡ q + i → kk ≡ k → r ≡ route_of job k (slice_index_or areas i no_area) → vs ≡ answer_of job k (slice_index_or areas i no_area)
    → itemsn ≡ items ++ given ss qq kk r vs ∷ []
    → itemsn ≡ answer_run job s k q (take (i + 1) areas)
run_next job s k q i areas items itemsn ss qq kk r vs lt e es eq ek er ev new =
    let area = slice_index_or areas i no_area in
    let is : given ss qq kk r vs ≡ answer_to job s (q + i) k area =
    ap (λ x. given x qq kk r vs) es ∙ (ap (λ x. given s x kk r vs) eq ∙ (ap (λ x. given s (q + i) x r vs) ek ∙ (ap (λ x. given s (q + i) k x vs) er ∙ ap (λ x. given s (q + i) k (route_of job k area) x) ev))) in
    new ∙ (ap (λ l. l ++ given ss qq kk r vs ∷ []) e ∙ (ap (λ a. answer_run job s k q (take i areas) ++ a ∷ []) is ∙ sym (run-more job s k q i areas lt)))

-- the boxes of a turn are among the first 100,000
pub turn_fits : (turns : List SessionTurn) (t q n : ℕ) → t < length turns → q ≡ first_query turns t → n ≡ length (slice_index_or turns t no_turn).areas → box_count turns ≤ 100000 → q + n ≤ 100000
turn_fits turns t q n lt e f le =
    let one = sum_by_more (λ (x : SessionTurn). length x.areas) turns t no_turn lt in
    let part = sum_by-take-le (λ (x : SessionTurn). length x.areas) turns (t + 1) in omega arith
