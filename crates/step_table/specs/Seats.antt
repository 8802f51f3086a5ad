-- What contracts see of the table and of its seats.
use Rattle.std.specs.Prelude.{◌≡◌, ℕ, ◌+◌, ◌-◌, ◌*◌, ◌/◌, ◌≤◌, ◌<◌, Bool, true, false, List, [], ◌∷◌, ◌++◌, All, length, take, slice_index_or, Option, Some, None}
use Rattle.atomic_table.specs.Seated.{TableId}
use Rattle.turn_table.specs.Views.{Begins}
use Rattle.run_script.specs.Jobs.{JobView, turns_of}
use Rattle.step_registry.specs.Core.{turn_at}
use Rattle.run_script.specs.declared.job.SessionTurn.{SessionTurn}
use Rattle.step_registry.specs.declared.event.Event.{Event}
use Rattle.step_registry.specs.declared.event.SessionState.{SessionState}
use Rattle.step_registry.specs.Core.{after, session_of, IsLegal}
use Rattle.step_registry.specs.SeatLaws.{own, Says}
use Rattle.step_table.specs.declared.reached.Reached.{Reached}
use Rattle.step_table.specs.declared.reached.Reached.TheVariants.{At, Ended}

pub record TableView : Type 0 where
  -- which lock it is
  pub lock : TableId
  -- how many sessions have a seat
  pub sessions : ℕ

pub record PublisherView : Type 0 where
  -- the lock that the seat is of
  pub table : TableId
  pub job : JobView
  -- the longest history that the seat has seen
  pub seen : List Event
  -- the words that it knows to be true, the newest first
  pub words : List ℕ

pub record SessionView : Type 0 where
  pub table : TableId
  pub session : ℕ
  pub job : JobView
  pub seen : List Event
  pub words : List ℕ
  -- a step that it knows to be published
  pub known : ℕ

-- the newest step that the publisher published, and whether it closed the plan
abbrev pub published_of : PublisherView → ℕ
published_of v = (after v.job v.seen).newest

abbrev pub closed_of : PublisherView → Bool
closed_of v = (after v.job v.seen).closed

-- what the core knows of the session
abbrev pub state_of : SessionView → SessionState
state_of v = session_of (after v.job v.seen) v.session

-- its next turn
abbrev pub next_turn : SessionView → SessionTurn
next_turn v = turn_at v.job v.session (state_of v).done

abbrev pub new_publisher : TableId → JobView → PublisherView
new_publisher lock job = record { table = lock; job = job; seen = []; words = [] }

abbrev pub new_session : TableId → JobView → ℕ → SessionView
new_session lock job s = record { table = lock; session = s; job = job; seen = []; words = []; known = 0 }

-- all but the last event
abbrev pub earlier : List Event → List Event
earlier h = take (length h - 1) h

-- the history goes on from what a seat has seen, has of the seat's number just its own events, and each word that it
-- knows is true of it
pub record Follows (number : ℕ) (seen : List Event) (words : List ℕ) (h : List Event) : Type 0 where
  pub begins : Begins seen h
  pub own : own number h ≡ own number seen
  pub known : All (Says h) words

-- the seat made the event, in a legal history that follows it up to there
pub record Adds (job : JobView) (number : ℕ) (seen : List Event) (words : List ℕ) (e : Event)
    (now : List Event) : Type 0 where
  pub last : now ≡ earlier now ++ e ∷ []
  pub legal : IsLegal job now
  pub follows : Follows number seen words (earlier now)

-- the step was published by the end of each legal history that follows the seat
abbrev pub IsKnown : JobView → ℕ → List Event → List ℕ → ℕ → Type 0
IsKnown job number seen words k = (h : List Event) → IsLegal job h → Follows number seen words h
    → k ≤ (after job h).newest

-- the word was loaded last, after any number of others
abbrev pub Loaded : ℕ → List ℕ → List ℕ → Type 0
Loaded w before now = (loads : List ℕ) × (now ≡ w ∷ loads ++ before)

-- what a wait for step k tells, by the word that it loaded last
abbrev pub Tells : ℕ → Reached → List ℕ → List ℕ → Type 0
Tells k (At n) before now = (k ≤ n) × (w : ℕ) × (w / 2 ≡ n) × Loaded w before now
Tells k (Ended n) before now = (n < k) × Loaded (2 * n + 1) before now

-- what one word tells of step k
abbrev pub Told : ℕ → Reached → ℕ → Type 0
Told k (At n) w = (k ≤ n) × (w / 2 ≡ n)
Told k (Ended n) w = (n < k) × (w ≡ 2 * n + 1)

abbrev pub ReachedKnown : Reached → ℕ → Type 0
ReachedKnown (At n) known = n ≤ known
ReachedKnown (Ended n) known = Unit {0}

-- P of each session's number and seat
abbrev pub EachSession : (ℕ → SessionView → Type 0) → List SessionView → Type 0
EachSession P seats = (s : ℕ) (d : SessionView) → s < length seats → P s (slice_index_or seats s d)

-- the step that a word names was published
abbrev pub Reaches : JobView → List Event → ℕ → Type 0
Reaches job h w = w / 2 ≤ (after job h).newest

-- the session of this seat has all its turns done and nothing out, and the history follows the seat
pub record HasEnded (job : JobView) (h : List Event) (s : ℕ) (v : SessionView) : Type 0 where
  pub number : v.session ≡ s
  pub job_is : v.job ≡ job
  pub follows : Follows (s + 1) v.seen v.words h
  pub done : (state_of v).done ≡ length (turns_of job s)
  pub out : (state_of v).out ≡ None
