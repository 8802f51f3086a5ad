-- For the tests.
use Rattle.std.specs.Prelude.{◌≡◌, ℕ, ◌<◌, length}
use Rattle.atomic_table.specs.Seated.{TableId}
use Rattle.run_script.specs.Jobs.{JobView, turns_of}
use Rattle.step_registry.specs.Pins.{PinView}
use Rattle.step_registry.specs.Core.{fresh, pinned, turn_at}
use Rattle.step_table.specs.Seats.{SessionView, state_of}

-- the session begins with a turn of one box that needs no step
pub record Asks (job : JobView) (s : ℕ) : Type 0 where
  pub there : s < length job.sessions
  pub turns : 0 < length (turns_of job s)
  pub need : (turn_at job s 0).need ≡ 0
  pub one : length (turn_at job s 0).areas ≡ 1

-- the session of this seat did nothing yet, and may pin any step
pub record IsReady (lock : TableId) (v : SessionView) : Type 0 where
  pub table : v.table ≡ lock
  pub fresh : state_of v ≡ fresh
  pub asks : Asks v.job v.session

-- and it has this pin now
pub record HasOut (lock : TableId) (pin : PinView) (v : SessionView) : Type 0 where
  pub table : v.table ≡ lock
  pub pin_session : pin.session ≡ v.session
  pub pin_job : pin.step.job ≡ v.job
  pub state : state_of v ≡ pinned pin.step.number fresh
