-- What contracts see of a pin.
use Rattle.std.specs.Prelude.{ℕ}
use Rattle.run_script.specs.Jobs.{JobView}
use Rattle.step_view.specs.StepView.{StepView, step_of}

-- the session that has it out, and the step
pub record PinView : Type 0 where
  pub session : ℕ
  pub step : StepView

-- session s has step k of a job out
abbrev pub pin_of : JobView → ℕ → ℕ → PinView
pin_of job s k = record { session = s; step = step_of job k }
