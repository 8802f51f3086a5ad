-- All answers of a history ascend.
use Rattle.std.proofs.Common.{◌≡◌, ℕ, ◌+◌, ◌<◌, Bool, true, false, cond, List, [], ◌∷◌, length, ap, ◌∙◌}
use Rattle.std.specs.Prelude.{All}
use Rattle.std.specs.List.Sorted.{IsStrictlyIncreasing}
use Rattle.std.proofs.lemmas.List.Elements.{All-nil, All-cons, All-append}
use Rattle.mesh_base.specs.Place.{Area}
use Rattle.mesh_base.specs.Query as query
use Rattle.mesh_base.specs.declared.answer.Answer.{Answer}
use Rattle.mesh_base.proofs.AnswerLaws.{answer_increasing}
use Rattle.mesh_base.proofs.JoinedLaws.{answer_is}
use Rattle.run_script.specs.Jobs.{JobView, turns_of, step_at}
use Rattle.step_registry.specs.declared.event.Event.{Event}
use Rattle.step_registry.specs.declared.event.Event.TheVariants.{Publish, Pin, Unpin, Close}
use Rattle.step_registry.specs.Core.{State, first, session_of, effect, IsWhole, turn_at, first_query, answer_to, answer_run, turn_answers, answers_by, answers_from, answers_of}
use Rattle.report.proofs.Written.{listed-is}
use Rattle.box_watch.specs.Watches.{boxes_of}
use Rattle.box_watch.specs.Own.{own_answers}
use Rattle.box_watch.proofs.Follows.{own-length}

abbrev Ascends : Answer → Type 0
Ascends a = IsStrictlyIncreasing a.vertices

run-ascends : (job : JobView) (s k q : ℕ) (xs : List Area) → All Ascends (answer_run job s k q xs)
run-ascends job s k q [] = All-nil Ascends
run-ascends job s k q (x ∷ xs) =
    let mesh = step_at job k in let r = query.route mesh x in
    All-cons Ascends (answer_to job s q k x) (answer_run job s k (q + 1) xs) (answer_increasing mesh x r (query.answer mesh x) (answer_is mesh x r)) (run-ascends job s k (q + 1) xs)

answered-ascends : (b : Bool) (xs : List Answer) → All Ascends xs → All Ascends (cond b xs [])
answered-ascends true xs all = all
answered-ascends false xs all = All-nil Ascends

event-ascends : (job : JobView) (st : State) (e : Event) → All Ascends (answers_by job st e)
event-ascends job st (Publish k) = All-nil Ascends
event-ascends job st (Pin s k) = All-nil Ascends
event-ascends job st Close = All-nil Ascends
event-ascends job st (Unpin s k a) =
    let t = (session_of st s).done in
    answered-ascends a (turn_answers job s t k) (run-ascends job s k (first_query (turns_of job s) t) (turn_at job s t).areas)

from-ascends : (job : JobView) (st : State) (h : List Event) → All Ascends (answers_from job st h)
from-ascends job st [] = All-nil Ascends
from-ascends job st (e ∷ es) = All-append Ascends (answers_by job st e) (answers_from job (effect st e) es) (event-ascends job st e) (from-ascends job (effect st e) es)

pub answers-ascend : (job : JobView) (h : List Event) → All (λ (a : Answer). IsStrictlyIncreasing a.vertices) (answers_of job h)
answers-ascend job h = from-ascends job (first job) h

pub own-count : (job : JobView) (h : List Event) (s : ℕ) → IsWhole job h → s < length job.sessions → length (own_answers s (answers_of job h)) ≡ length (boxes_of job s)
own-count job h s w lt = ap length (listed-is job h s lt) ∙ own-length job h s w lt
