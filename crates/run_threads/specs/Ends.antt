-- How the parts of a run end.
use Rattle.std.specs.Prelude.{◌≡◌, ◌⊎◌, ℕ, ◌+◌, ◌*◌, ◌≤◌, ◌<◌, Bool, true, false, List, ◌∷◌, length, None}
use Rattle.atomic_table.specs.Seated.{TableId}
use Rattle.run_script.specs.Jobs.{JobView, turns_of, steps}
use Rattle.job_steps.specs.MakerView.{MakerView}
use Rattle.step_registry.specs.declared.event.Event.{Event}
use Rattle.step_registry.specs.declared.event.SessionState.{SessionState}
use Rattle.step_registry.specs.Core.{turn_at, after, session_of, fresh, IsLegal, IsWhole}
use Rattle.step_table.specs.Seats.{PublisherView, SessionView, published_of, closed_of, state_of, next_turn}
use Rattle.run_threads.specs.declared.run.Played.{Played}
use Rattle.run_threads.specs.declared.run.Played.TheVariants.{Whole, NoMemory}

-- ---- what the workers say of their seats

-- the same seat of the same table
pub record IsSame (v w : SessionView) : Type 0 where
  pub table : w.table ≡ v.table
  pub session : w.session ≡ v.session
  pub job : w.job ≡ v.job

-- the session has nothing out, and goes on
abbrev pub Idle : SessionState → Type 0
Idle me = (me.out ≡ None) × (me.is_stopped ≡ false)

-- the word that was loaded last says that the plan ended before the step
abbrev pub IsOver : ℕ → List ℕ → Type 0
IsOver need words = (n : ℕ) × (rest : List ℕ) × (words ≡ (2 * n + 1) ∷ rest) × (n < need)

-- nothing is out, and the session was stopped, or all turns are done or the plan ended before the need of the next one
abbrev pub Stops : Bool → SessionView → Type 0
Stops true v = ((state_of v).out ≡ None) × ((state_of v).is_stopped ≡ true)
Stops false v = ((state_of v).out ≡ None) × (((state_of v).done ≡ length (turns_of v.job v.session))
    ⊎ IsOver (next_turn v).need v.words)

-- a session's seat before its part
pub record IsFresh (lock : TableId) (job : JobView) (v : SessionView) : Type 0 where
  pub table : v.table ≡ lock
  pub job_is : v.job ≡ job
  pub state : state_of v ≡ fresh
  pub there : v.session < length job.sessions

-- and after it
pub record HasEnded (lock : TableId) (job : JobView) (v : SessionView) : Type 0 where
  pub table : v.table ≡ lock
  pub job_is : v.job ≡ job
  pub ends : Stops true v ⊎ Stops false v

pub record IsPublisher (lock : TableId) (job : JobView) (v : PublisherView) : Type 0 where
  pub table : v.table ≡ lock
  pub job_is : v.job ≡ job

-- the publisher and the maker of its steps between two steps
pub record IsReady (lock : TableId) (v : PublisherView) (maker : MakerView) : Type 0 where
  pub table : v.table ≡ lock
  pub job_is : v.job ≡ maker.job
  pub published : published_of v ≡ maker.made
  pub goes : closed_of v ≡ false

-- ---- how a run ends

-- where a session stands in a run that was cut short: all turns done, or stopped, or before a need above the newest
-- step
abbrev pub Rests : JobView → List Event → ℕ → Type 0
Rests job h s =
    ((session_of (after job h) s).done ≡ length (turns_of job s))
    ⊎ (((session_of (after job h) s).is_stopped ≡ true)
    ⊎ ((after job h).newest < (turn_at job s (session_of (after job h) s).done).need))

-- not all steps were published, or some session was stopped
abbrev pub WasRefused : JobView → List Event → Type 0
WasRefused job h = ((after job h).newest < steps job)
    ⊎ ((s : ℕ) × (s < length job.sessions) × ((session_of (after job h) s).is_stopped ≡ true))

-- a run that memory cut short
pub record IsCutShort (job : JobView) (h : List Event) : Type 0 where
  pub legal : IsLegal job h
  pub closed : (after job h).closed ≡ true
  pub none_out : (s : ℕ) → s < length job.sessions → (session_of (after job h) s).out ≡ None
  pub rests : (s : ℕ) → s < length job.sessions → Rests job h s
  pub not_whole : IsWhole job h → ⊥
  pub refused : WasRefused job h

abbrev pub IsPlayed : JobView → Played → Type 0
IsPlayed job (Whole registry) = (registry.job ≡ job) × IsWhole job registry.journal
IsPlayed job (NoMemory registry) = (registry.job ≡ job) × IsCutShort job registry.journal
