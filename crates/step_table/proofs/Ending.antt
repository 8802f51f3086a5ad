-- The seats come back.
use Rattle.std.specs.Prelude.{◌≡◌, ℕ, ◌+◌, ◌<◌, Bool, true, false, List, [], ◌∷◌, ◌++◌, length, slice_index_or, drop, Option, Some, None, is_some, refl}
use Rattle.std.proofs.Common.{arith, suc, zero, sym, ◌∙◌, ap, subst}
use Rattle.atomic_table.specs.Seated.{TableId}
use Rattle.turn_table.specs.Seats.{Standing, standing, EachSeat, IsBack}
use Rattle.run_script.specs.Jobs.{JobView}
use Rattle.step_registry.specs.declared.event.Event.{Event}
use Rattle.step_registry.specs.declared.event.SessionState.{SessionState}
use Rattle.step_registry.specs.Core.{session_of, after, IsLegal}
use Rattle.step_registry.specs.Laws.{RegistryView}
use Rattle.step_table.specs.Seats.{PublisherView, SessionView, published_of, closed_of, state_of, Follows, EachSession}
use Rattle.step_table.specs.Seating.{Stands, LockSeat, publisher_view, session_view, IsPublisher, IsSession, IsSeatOf, AreSeatsOf}
use Rattle.step_table.proofs.Steps.{front_same, state_same}
use Rattle.step_table.proofs.Turning.{Finds}

pub head_is : (xs : List SessionView) (d : SessionView) → 0 < length xs → xs ≡ slice_index_or xs 0 d ∷ drop 1 xs
head_is [] d lt = absurd (omega arith)
head_is (x ∷ xs) d lt = refl

pub seats_more : (ss : List LockSeat) (vs : List SessionView) (s : LockSeat) (v : SessionView) → AreSeatsOf ss vs → IsSeatOf (standing s) v → AreSeatsOf (ss ++ s ∷ []) (vs ++ v ∷ [])
seats_more [] [] s v are is = (is, tt)
seats_more [] (w ∷ vs) s v are is = absurd are
seats_more (t ∷ ss) [] s v are is = absurd are
seats_more (t ∷ ss) (w ∷ vs) s v are is = (are.0, seats_more ss vs s v are.1 is)

pub seats_even : (ss : List LockSeat) (vs : List SessionView) → AreSeatsOf ss vs → length ss ≡ length vs
seats_even [] [] are = refl
seats_even [] (w ∷ vs) are = absurd are
seats_even (t ∷ ss) [] are = absurd are
seats_even (t ∷ ss) (w ∷ vs) are = ap suc (seats_even ss vs are.1)

pub seat_at : (ss : List LockSeat) (vs : List SessionView) (i : ℕ) (d : LockSeat) (e : SessionView) → AreSeatsOf ss vs → i < length vs → IsSeatOf (standing (slice_index_or ss i d)) (slice_index_or vs i e)
seat_at [] [] i d e are lt = absurd (omega arith)
seat_at [] (w ∷ vs) i d e are lt = absurd are
seat_at (t ∷ ss) [] i d e are lt = absurd are
seat_at (t ∷ ss) (w ∷ vs) zero d e are lt = are.0
seat_at (t ∷ ss) (w ∷ vs) (suc i) d e are lt = seat_at ss vs i d e are.1 (omega arith)

-- a session's seat is at rest, with its number
pub seat_back : (lock : TableId) (i : ℕ) (s : Stands) (v : SessionView) → IsSeatOf s v → v.table ≡ lock → v.session ≡ i → (s.table ≡ lock) × (s.number ≡ i + 1) × (is_some s.out ≡ false)
seat_back lock i s v is table n =
    let me : is.me ≡ v.session = ap (λ (x : SessionView). x.session) is.view in
    (ap (λ (x : SessionView). x.table) is.view ∙ table, is.session.number ∙ ap (λ m. m + 1) (me ∙ n), ap is_some is.session.rests)

pub publisher_back : (lock : TableId) (s : Stands) (v : PublisherView) (published capacity : ℕ) (room : List LockSeat) → IsPublisher s published room capacity → publisher_view s ≡ v → v.table ≡ lock → (s.table ≡ lock) × (s.number ≡ 0) × (is_some s.out ≡ false)
publisher_back lock s v published capacity room is view table = (ap (λ (x : PublisherView). x.table) view ∙ table, is.number, ap is_some is.rests)

pub backs : (lock : TableId) (p : LockSeat) (seats : List LockSeat) (sessions : List SessionView) (all : List LockSeat) → all ≡ p ∷ seats → IsBack lock 0 p → AreSeatsOf seats sessions → EachSession (λ s v. (v.table ≡ lock) × (v.session ≡ s)) sessions → EachSeat (IsBack lock) all
backs lock p seats sessions all is first are each = subst (EachSeat (IsBack lock)) (sym is) at
  where
    at : EachSeat (IsBack lock) (p ∷ seats)
    at zero d lt = first
    at (suc k) d lt =
        let even = seats_even seats sessions are in let less : k < length sessions = omega arith in
        let none : SessionView = record { table = lock; session = 0; job = (standing p).theme; seen = []; words = []; known = 0 } in
        let mine = each k none less in
        let one : k + 1 ≡ suc k = omega arith in
        subst (λ n. IsBack lock n (slice_index_or seats k d)) one (seat_back lock k (standing (slice_index_or seats k d)) (slice_index_or sessions k none) (seat_at seats sessions k d none are less) mine.0 mine.1)

-- what the registry that comes back says of a session's seat
pub record Ends (registry : RegistryView) (s : ℕ) (v : SessionView) : Type 0 where
  pub job : v.job ≡ registry.job
  pub follows : Follows (s + 1) v.seen v.words registry.journal
  pub state : session_of (after registry.job registry.journal) s ≡ state_of v

pub session_ends : (registry : RegistryView) (i : ℕ) (s : Stands) (v : SessionView) → IsSeatOf s v → v.session ≡ i → Finds s (i + 1) registry → Ends registry i v
session_ends registry i s v is n f =
    let me : is.me ≡ i = ap (λ (x : SessionView). x.session) is.view ∙ n in
    let there : i < length s.theme.sessions = subst (λ m. m < length s.theme.sessions) me is.session.there in
    let same = state_same s.theme registry.journal s.seen i there f.follows.own in record {
      job = sym (ap (λ (x : SessionView). x.job) is.view) ∙ sym f.job;
      follows = subst (λ (x : SessionView). Follows (i + 1) x.seen x.words registry.journal) is.view f.follows;
      state = ap (λ j. session_of (after j registry.journal) i) f.job ∙ (same ∙ (ap (session_of (after s.theme s.seen)) (sym me) ∙ ap state_of is.view));
    }

pub each_ends : (registry : RegistryView) (p : LockSeat) (seats : List LockSeat) (sessions : List SessionView) (all : List LockSeat) → all ≡ p ∷ seats → AreSeatsOf seats sessions
    → ((k : ℕ) (d : LockSeat) → k < length all → Finds (standing (slice_index_or all k d)) k registry) → EachSession (λ s v. v.session ≡ s) sessions → EachSession (Ends registry) sessions
each_ends registry p seats sessions all is are each mine s d lt =
    let even = seats_even seats sessions are in let long : length all ≡ suc (length seats) = ap length is in
    let f = each (suc s) p (omega arith) in
    let g : Finds (standing (slice_index_or seats s p)) (suc s) registry = subst (λ l. Finds (standing (slice_index_or l (suc s) p)) (suc s) registry) is f in
    let one : suc s ≡ s + 1 = omega arith in
    session_ends registry s (standing (slice_index_or seats s p)) (slice_index_or sessions s d) (seat_at seats sessions s p d are lt) (mine s d lt) (subst (λ n. Finds (standing (slice_index_or seats s p)) n registry) one g)

pub first_ends : (registry : RegistryView) (p : LockSeat) (seats : List LockSeat) (all : List LockSeat) → all ≡ p ∷ seats
    → ((k : ℕ) (d : LockSeat) → k < length all → Finds (standing (slice_index_or all k d)) k registry) → Finds (standing p) 0 registry
first_ends registry p seats all is each =
    let long : length all ≡ suc (length seats) = ap length is in
    subst (λ l. Finds (standing (slice_index_or l 0 p)) 0 registry) is (each 0 p (omega arith))

-- and of the publisher's
pub record PublisherEnds (registry : RegistryView) (v : PublisherView) : Type 0 where
  pub job : registry.job ≡ v.job
  pub follows : Follows 0 v.seen v.words registry.journal
  pub front : ((after registry.job registry.journal).newest ≡ published_of v) × ((after registry.job registry.journal).closed ≡ closed_of v)

pub publisher_ends : (registry : RegistryView) (s : Stands) (v : PublisherView) → publisher_view s ≡ v → Finds s 0 registry → PublisherEnds registry v
publisher_ends registry s v view f =
    let front = front_same s.theme registry.journal s.seen f.follows.own in record {
      job = f.job ∙ ap (λ (x : PublisherView). x.job) view;
      follows = subst (λ (x : PublisherView). Follows 0 x.seen x.words registry.journal) view f.follows;
      front = (ap (λ j. (after j registry.journal).newest) f.job ∙ (front.0 ∙ ap published_of view), ap (λ j. (after j registry.journal).closed) f.job ∙ (front.1 ∙ ap closed_of view));
    }
