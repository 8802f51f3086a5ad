-- What is true of a seat's fields.
use Rattle.std.specs.Prelude.{◌≡◌, ℕ, ◌+◌, ◌<◌, ◌≤◌, List, [], ◌∷◌, length, slice_index_or, Option, None, vec_capacity}
use Rattle.turn_table.specs.Seats.{Standing, standing}
use Rattle.turn_table.specs.declared.seats.KeptSeat.{KeptSeat}
use Rattle.step_registry.specs.Laws.{RegistryView}
use Rattle.run_script.specs.Jobs.{JobView}
use Rattle.step_registry.specs.declared.event.Event.{Event}
use Rattle.step_registry.specs.Core.{after, session_of, IsLegal}
use Rattle.step_table.specs.Seats.{PublisherView, SessionView, IsKnown}

abbrev pub Stands : Type 0
Stands = Standing JobView Event

abbrev pub publisher_view : Stands → PublisherView
publisher_view s = record { table = s.table; job = s.theme; seen = s.seen; words = s.known }

abbrev pub session_view : Stands → ℕ → ℕ → SessionView
session_view s session known = record {
  table = s.table;
  session = session;
  job = s.theme;
  seen = s.seen;
  words = s.known;
  known = known;
}

abbrev pub LockSeat : Type 0
LockSeat = KeptSeat RegistryView JobView Event

pub record IsPublisher (s : Stands) (published : ℕ) (room : List LockSeat) (capacity : ℕ) : Type 0 where
  pub rests : s.out ≡ None
  pub number : s.number ≡ 0
  pub legal : IsLegal s.theme s.seen
  pub newest : published ≡ (after s.theme s.seen).newest
  -- all seats fit into the room
  pub empty : room ≡ []
  pub roomy : length s.theme.sessions + 1 ≤ capacity

pub record IsSession (s : Stands) (session known done : ℕ) : Type 0 where
  pub rests : s.out ≡ None
  pub number : s.number ≡ session + 1
  pub there : session < length s.theme.sessions
  pub legal : IsLegal s.theme s.seen
  pub step : IsKnown s.theme (session + 1) s.seen s.known known
  pub turns : done ≡ (session_of (after s.theme s.seen) session).done

-- the seat of the lock that is in a session's
pub record IsSeatOf (s : Stands) (v : SessionView) : Type 0 where
  pub me : ℕ
  pub known : ℕ
  pub done : ℕ
  pub view : session_view s me known ≡ v
  pub session : IsSession s me known done

-- the seats of the lock that are in those of the sessions
abbrev pub AreSeatsOf : List LockSeat → List SessionView → Type 0
AreSeatsOf [] [] = Unit {0}
AreSeatsOf [] (v ∷ vs) = ⊥
AreSeatsOf (s ∷ ss) [] = ⊥
AreSeatsOf (s ∷ ss) (v ∷ vs) = IsSeatOf (standing s) v × AreSeatsOf ss vs
