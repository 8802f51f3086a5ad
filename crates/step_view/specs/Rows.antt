-- Shares of one step.
use Rattle.std.specs.Prelude.{◌≡◌, ℕ, ◌<◌, ◌≤◌, ◌+◌, List, [], ◌∷◌, length, replicate, Option, Some, None}
use Rattle.run_script.specs.Jobs.{JobView}
use Rattle.step_view.specs.StepView.{StepView, step_of}

-- which step they are shares of, and how many they are
pub record SharesView : Type 0 where
  pub step : StepView
  pub count : ℕ

-- all shares of step k of a job: one for each session, and one more
abbrev pub all_shares : JobView → ℕ → SharesView
all_shares job k = record { step = step_of job k; count = length job.sessions + 1 }

-- a step of the job that has nothing in it
abbrev pub no_step : StepView
no_step = step_of (record { mesh = record { points = []; cells = [] }; plans = []; sessions = [] }) 0

-- the step at the front of a row
abbrev pub front_step : List (Option StepView) → StepView
front_step [] = no_step
front_step (None ∷ row) = no_step
front_step (Some step ∷ row) = step

-- the row has one step again and again, at least once and at most nine times
pub record IsRow (row : List (Option StepView)) : Type 0 where
  pub same : row ≡ replicate (length row) (Some (front_step row))
  pub some : 0 < length row
  pub fits : length row ≤ 9
