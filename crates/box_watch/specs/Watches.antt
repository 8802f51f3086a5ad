-- What entered and what left each box since it was last asked.
use Rattle.std.specs.Prelude.{ℕ, List, [], length, map, flat_map, slice_index_or, Option, Some, None}
use Rattle.std.specs.List.{range_with_len}
use Rattle.mesh_base.specs.Place.{Area}
use Rattle.mesh_base.specs.declared.answer.Answer.{Answer}
use Rattle.mesh_base.specs.declared.answer.Route.TheVariants as routes
use Rattle.run_script.specs.Jobs.{JobView, turns_of}
use Rattle.run_script.specs.declared.job.SessionTurn.{SessionTurn}
use Rattle.step_registry.specs.declared.event.Event.{Event}
use Rattle.report.specs.Report.{listed}
use Rattle.box_watch.specs.declared.watch.Watch.{Watch}
use Rattle.box_watch.specs.Lists.{without}
use Rattle.box_watch.specs.Priors.{prior_of}

-- the boxes of these turns, in their order
abbrev pub boxes_in : List SessionTurn → List Area
boxes_in turns = flat_map (λ t. t.areas) turns

abbrev pub boxes_of : JobView → ℕ → List Area
boxes_of job s = boxes_in (turns_of job s)

abbrev pub no_answer : Answer
no_answer = record { session = 0; query = 0; step = 0; route = routes.Scan; vertices = [] }

-- the answer of box q, by the answers of a session in the order of its boxes
abbrev pub answer_at : List Answer → ℕ → Answer
answer_at answers q = slice_index_or answers q no_answer

-- the vertices of the box that was asked before, and none where there is no such box
abbrev pub vertices_before : List Answer → Option ℕ → List ℕ
vertices_before answers None = []
vertices_before answers (Some q) = (answer_at answers q).vertices

-- the watch of box q of session s, where this box was asked before
abbrev pub watch_since : ℕ → List Answer → ℕ → Option ℕ → Watch
watch_since s answers q prior =
    let now = answer_at answers q in let before = vertices_before answers prior in
    record {
      session = s;
      query = q;
      step = now.step;
      prior = prior;
      entered = without now.vertices before;
      left = without before now.vertices;
    }

abbrev pub watch_of : ℕ → List Area → List Answer → ℕ → Watch
watch_of s boxes answers q = watch_since s answers q (prior_of boxes q)

-- the watches of a session, box by box
abbrev pub watches_by : ℕ → List Area → List Answer → List Watch
watches_by s boxes answers = map (watch_of s boxes answers) (range_with_len 0 (length boxes))

abbrev pub session_watches : JobView → List Event → ℕ → List Watch
session_watches job h s = watches_by s (boxes_of job s) (listed job h s)

-- the watches of a history, by session and then by box
abbrev pub watches_of : JobView → List Event → List Watch
watches_of job h = flat_map (session_watches job h) (range_with_len 0 (length job.sessions))
