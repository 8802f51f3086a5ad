-- A turn of a seat: what it finds, and what it leaves.
use Rattle.std.specs.Prelude.{◌≡◌, ℕ, ◌+◌, ◌*◌, ◌≤◌, ◌<◌, Bool, true, false, List, [], ◌∷◌, ◌++◌, All, length, Option, Some, None, refl}
use Rattle.std.proofs.Common.{arith, sym, ◌∙◌, ap, subst}
use Rattle.turn_table.specs.Views.{Begins}
use Rattle.turn_table.specs.Seats.{Standing}
use Rattle.turn_table.specs.declared.seats.Turn.{Turn}
use Rattle.run_script.specs.Jobs.{JobView, turns_of, steps}
use Rattle.step_registry.specs.Core.{turn_at}
use Rattle.step_registry.specs.declared.event.Event.{Event}
use Rattle.step_registry.specs.declared.event.Event.TheVariants.{Publish, Pin, Unpin, Close}
use Rattle.step_registry.specs.declared.event.SessionState.{SessionState}
use Rattle.step_registry.specs.Pins.{PinView, pin_of}
use Rattle.step_view.specs.StepView.{StepView, step_of}
use Rattle.mesh_base.specs.declared.answer.Answer.{Answer}
use Rattle.std.specs.Option.{IfSome}
use Rattle.step_registry.specs.Core.{State, first, session_of, pinned, unpinned, effect, CanHappen, after, IsLegal, turn_answers}
use Rattle.step_registry.specs.CoreLaws.{legal_more}
use Rattle.step_registry.specs.SeatLaws.{own, Says}
use Rattle.step_registry.specs.Laws.{RegistryView}
use Rattle.step_table.specs.Seats.{earlier, Follows, Adds, IsKnown}
use Rattle.step_table.specs.Seating.{Stands, LockSeat, IsPublisher, IsSession}
use Rattle.step_table.proofs.Steps.{adds, after_more, front_same, state_same, can_publish, can_close, can_pin, can_unpin, pinned_state, unpinned_state, known_on}

-- the registry that a seat finds goes on from where it stands
pub record Finds (s : Stands) (number : ℕ) (found : RegistryView) : Type 0 where
  pub job : found.job ≡ s.theme
  pub legal : IsLegal s.theme found.journal
  pub follows : Follows number s.seen s.known found.journal

pub finds : (s : Stands) (number : ℕ) (found : RegistryView) → s.number ≡ number → found.job ≡ s.theme → IsLegal found.job found.journal → Begins s.seen found.journal → own s.number found.journal ≡ own s.number s.seen → All (Says found.journal) s.known → Finds s number found
finds s number found n job legal begins same known = record {
  job = job;
  legal = subst (λ j. IsLegal j found.journal) job legal;
  follows = record { begins = begins; own = subst (λ m. own m found.journal ≡ own m s.seen) n same; known = known };
}

-- where the seat stands after its turn
abbrev pub turned : Stands → List Event → Stands
turned s h = record s { seen = h; out = None; taken = [] }

pub stands : (s mid now : Stands) (turn : Turn) (h left : List Event) → mid ≡ record s { out = Some turn; taken = h } → now ≡ record mid { seen = left; out = None; taken = [] } → now ≡ turned s left
stands s mid now turn h left e f = f ∙ ap (λ (z : Stands). turned z left) e

module _ (s : Stands) (number : ℕ) (found : RegistryView) where
  -- what holds of the job that was found holds of the seat's
  pub close_can : Finds s 0 found → (after s.theme s.seen).closed ≡ false → CanHappen found.job (after found.job found.journal) Close
  close_can f going = subst (λ j. CanHappen j (after j found.journal) Close) (sym f.job) (can_close s.theme 0 s.seen s.known found.journal f.follows.own going)

  pub publish_can : (k : ℕ) → Finds s 0 found → (after s.theme s.seen).closed ≡ false → k ≡ (after s.theme s.seen).newest + 1 → k ≤ steps s.theme → CanHappen found.job (after found.job found.journal) (Publish k)
  publish_can k f going next le = subst (λ j. CanHappen j (after j found.journal) (Publish k)) (sym f.job) (can_publish s.theme 0 s.seen s.known found.journal k f.follows.own going next le)

  pub pin_can : (me known : ℕ) → Finds s (me + 1) found → me < length s.theme.sessions → IsKnown s.theme (me + 1) s.seen s.known known
      → (session_of (after s.theme s.seen) me).out ≡ None → (session_of (after s.theme s.seen) me).is_stopped ≡ false → (session_of (after s.theme s.seen) me).done < length (turns_of s.theme me)
      → (turn_at s.theme me (session_of (after s.theme s.seen) me).done).need ≤ known → CanHappen found.job (after found.job found.journal) (Pin me (after found.job found.journal).newest)
  pin_can me known f there is_known out goes left need =
      subst (λ j. CanHappen j (after j found.journal) (Pin me (after j found.journal).newest)) (sym f.job)
      (can_pin s.theme 0 s.seen s.known found.journal me known there f.follows.own (is_known found.journal f.legal f.follows) out goes left need)

  pub unpin_can : (me k : ℕ) (answered : Bool) → Finds s (me + 1) found → me < length s.theme.sessions → (session_of (after s.theme s.seen) me).out ≡ Some k → CanHappen found.job (after found.job found.journal) (Unpin me k answered)
  unpin_can me k answered f there out = subst (λ j. CanHappen j (after j found.journal) (Unpin me k answered)) (sym f.job) (can_unpin s.theme 0 s.seen s.known found.journal me k answered there f.follows.own out)

  module _ (e : Event) (left : RegistryView) where
    pub left_legal : Finds s number found → CanHappen found.job (after found.job found.journal) e → left.job ≡ found.job → left.journal ≡ found.journal ++ e ∷ [] → IsLegal s.theme left.journal
    left_legal f can job is = subst (IsLegal s.theme) (sym is) (legal_more s.theme found.journal e f.legal (subst (λ j. CanHappen j (after j found.journal) e) f.job can))

    pub left_allowed : Finds s number found → CanHappen found.job (after found.job found.journal) e → left.job ≡ found.job → left.journal ≡ found.journal ++ e ∷ [] → IsLegal left.job left.journal
    left_allowed f can job is = subst (λ j. IsLegal j left.journal) (sym (job ∙ f.job)) (left_legal f can job is)

    pub turn_adds : Finds s number found → CanHappen found.job (after found.job found.journal) e → left.job ≡ found.job → left.journal ≡ found.journal ++ e ∷ [] → Adds s.theme number s.seen s.known e left.journal
    turn_adds f can job is = adds s.theme number s.seen s.known found.journal e left.journal f.follows (left_legal f can job is) is

  -- what the publisher has published then, and whether the plan is closed
  pub after_publish : (k : ℕ) (left : List Event) → Finds s 0 found → left ≡ found.journal ++ Publish k ∷ [] → ((after s.theme left).newest ≡ k) × ((after s.theme left).closed ≡ (after s.theme s.seen).closed)
  after_publish k left f is =
      let state : after s.theme left ≡ effect (after s.theme found.journal) (Publish k) = ap (after s.theme) is ∙ after_more s.theme found.journal (Publish k) in
      (ap (λ (z : State). z.newest) state, ap (λ (z : State). z.closed) state ∙ (front_same s.theme found.journal s.seen f.follows.own).1)

  pub after_close : (left : List Event) → Finds s 0 found → left ≡ found.journal ++ Close ∷ [] → ((after s.theme left).newest ≡ (after s.theme s.seen).newest) × ((after s.theme left).closed ≡ true)
  after_close left f is =
      let state : after s.theme left ≡ effect (after s.theme found.journal) Close = ap (after s.theme) is ∙ after_more s.theme found.journal Close in
      (ap (λ (z : State). z.newest) state ∙ (front_same s.theme found.journal s.seen f.follows.own).0, ap (λ (z : State). z.closed) state)

  -- the session's state then
  pub after_pin : (me k : ℕ) (left : List Event) → Finds s (me + 1) found → me < length s.theme.sessions → left ≡ found.journal ++ Pin me k ∷ [] → session_of (after s.theme left) me ≡ pinned k (session_of (after s.theme s.seen) me)
  after_pin me k left f there is =
      ap (λ h. session_of (after s.theme h) me) is ∙ (pinned_state s.theme found.journal me k f.legal there ∙ ap (pinned k) (state_same s.theme found.journal s.seen me there f.follows.own))

  pub after_unpin : (me k : ℕ) (a : Bool) (left : List Event) → Finds s (me + 1) found → me < length s.theme.sessions → left ≡ found.journal ++ Unpin me k a ∷ [] → session_of (after s.theme left) me ≡ unpinned a (session_of (after s.theme s.seen) me)
  after_unpin me k a left f there is =
      ap (λ h. session_of (after s.theme h) me) is ∙ (unpinned_state s.theme found.journal me k a f.legal there ∙ ap (unpinned a) (state_same s.theme found.journal s.seen me there f.follows.own))

  -- newest after an event of a session
  pub newest_pin : (me k : ℕ) (left : List Event) → left ≡ found.journal ++ Pin me k ∷ [] → (after s.theme left).newest ≡ (after s.theme found.journal).newest
  newest_pin me k left is = ap (λ h. (after s.theme h).newest) is ∙ ap (λ (z : State). z.newest) (after_more s.theme found.journal (Pin me k))

  pub newest_unpin : (me k : ℕ) (a : Bool) (left : List Event) → left ≡ found.journal ++ Unpin me k a ∷ [] → (after s.theme left).newest ≡ (after s.theme found.journal).newest
  newest_unpin me k a left is = ap (λ h. (after s.theme h).newest) is ∙ ap (λ (z : State). z.newest) (after_more s.theme found.journal (Unpin me k a))

-- what is true of the seat's fields after its turn
pub publisher_kept : (s now shows : Stands) (was published capacity : ℕ) (room : List LockSeat) (h : List Event) (shown : List ℕ) → IsPublisher s was room capacity → IsLegal s.theme h → published ≡ (after s.theme h).newest → now ≡ turned s h → shows ≡ record now { shown = shown } → IsPublisher shows published room capacity
publisher_kept s now shows was published capacity room h shown p legal newest is more =
    subst (λ z. IsPublisher z published room capacity) (sym (more ∙ ap (λ (z : Stands). let y : Stands = record z { shown = shown } in y) is)) (record { rests = refl; number = p.number; legal = legal; newest = newest; empty = p.empty; roomy = p.roomy })

pub session_kept : (s now : Stands) (me known done : ℕ) (h : List Event) → s.number ≡ me + 1 → me < length s.theme.sessions → IsLegal s.theme h → IsKnown s.theme (me + 1) h s.known known → done ≡ (session_of (after s.theme h) me).done → now ≡ turned s h → IsSession now me known done
session_kept s now me known done h n there legal is_known turns is = subst (λ z. IsSession z me known done) (sym is) (record { rests = refl; number = n; there = there; legal = legal; step = is_known; turns = turns })

-- a pin is what its parts say
pub pin_is : (pin : PinView) (me : ℕ) (j job : JobView) (n k : ℕ) → pin.session ≡ me → pin.step ≡ step_of j n → j ≡ job → n ≡ k → pin ≡ pin_of job me k
pin_is pin me j job n k a b e f =
    ap (λ (x : StepView). let p : PinView = record { session = pin.session; step = x } in p) (b ∙ (ap (λ (i : JobView). step_of i n) e ∙ ap (λ (m : ℕ). step_of job m) f)) ∙ ap (λ (m : ℕ). pin_of job m k) a

-- the answers that are due of the seat's state are those that are due of the registry's
pub answers_on : (s : Stands) (found : RegistryView) (me who k : ℕ) (answers : Option (List Answer)) → Finds s (me + 1) found → me < length s.theme.sessions → who ≡ me
    → IfSome answers (λ list. list ≡ turn_answers s.theme me (session_of (after s.theme s.seen) me).done k)
    → IfSome answers (λ list. list ≡ turn_answers found.job who (session_of (after found.job found.journal) who).done k)
answers_on s found me who k answers f there is due =
    subst (λ m. IfSome answers (λ list. list ≡ turn_answers found.job m (session_of (after found.job found.journal) m).done k)) (sym is)
    (subst (λ j. IfSome answers (λ list. list ≡ turn_answers j me (session_of (after j found.journal) me).done k)) (sym f.job)
    (subst (λ (w : SessionState). IfSome answers (λ list. list ≡ turn_answers s.theme me w.done k)) (sym (state_same s.theme found.journal s.seen me there f.follows.own)) due))
