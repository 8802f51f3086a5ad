-- What contracts see of a registry, and what is true of its fields.
use Rattle.std.specs.Prelude.{◌≡◌, ℕ, ◌+◌, ◌≤◌, List, [], length, Option, Some, None}
use Rattle.run_script.specs.Jobs.{JobView, IsJob, all_boxes}
use Rattle.step_view.specs.Rows.{SharesView}
use Rattle.mesh_base.specs.declared.answer.Answer.{Answer}
use Rattle.step_registry.specs.declared.event.Event.{Event}
use Rattle.step_registry.specs.Core.{State, after, IsLegal, row_of, answers_of}
use Rattle.step_registry.specs.CoreLaws.{most_events}
use Rattle.step_registry.specs.Rows.{older_rows}

pub record RegistryView : Type 0 where
  pub job : JobView
  pub journal : List Event

-- All that a registry keeps is told by its job and its journal.
pub record IsKept (job : JobView) (journal : List Event) (state : State) (latest : SharesView)
    (older : List SharesView) (answers : List Answer) (events_room answers_room rows_room : ℕ) : Type 0 where
  pub legal : IsLegal job journal
  pub state_is : state ≡ after job journal
  pub latest_is : latest ≡ row_of job state.sessions state.newest
  pub older_is : older ≡ older_rows job state
  pub answers_is : answers ≡ answers_of job journal
  pub events_fit : most_events job ≤ events_room
  pub answers_fit : all_boxes job ≤ answers_room
  pub rows_fit : length job.sessions + 1 ≤ rows_room
  pub job_is : IsJob job

abbrev pub answers_in : Option (List Answer) → List Answer
answers_in None = []
answers_in (Some list) = list
