use Rattle.std.proofs.Common.{rules, arith, ◌≡◌, ℕ, ◌+◌, ◌*◌, ◌/◌, ◌<◌, ◌≤◌, List, [], ◌∷◌, ◌++◌, length, IfOk, Option, Some, None, Bool, true, false, map, sym, subst, ap, ◌∙◌}
use Rattle.std.specs.Option.{option_to_list, is_some, IfSome}
use Rattle.run_script.specs.Jobs.{JobView, turns_of, steps}
use Rattle.step_registry.specs.Core.{turn_at}
use Rattle.step_view.specs.StepView.{StepView}
use Rattle.step_view.specs.Rows.{SharesView}
use Rattle.turn_table.specs.Seats.{standing}
use Rattle.step_registry.specs.declared.event.Event.{Event}
use Rattle.step_registry.specs.declared.event.Event.TheVariants.{Publish, Pin, Unpin, Close}
use Rattle.step_registry.specs.declared.event.SessionState.{SessionState}
use Rattle.step_registry.specs.Pins.{PinView, pin_of}
use Rattle.step_registry.specs.Core.{after, session_of, pinned, unpinned, CanHappen, IsLegal, freed_by, turn_answers}
use Rattle.step_view.specs.Rows.{all_shares}
use Rattle.step_registry.specs.SeatLaws.{Says}
use Rattle.step_registry.specs.Laws.{RegistryView}
use Rattle.step_table.specs.Seats.{PublisherView, SessionView, published_of, closed_of, state_of, next_turn, earlier, Follows, Adds}
use Rattle.step_table.specs.Seating.{Stands}
use Rattle.step_table.proofs.Steps.{says_open, says_closed, known_on, state_same, earlier_is}
use Rattle.step_table.proofs.Turning.{finds, turned, stands, close_can, publish_can, pin_can, unpin_can, left_legal, left_allowed, turn_adds, after_publish, after_close, after_pin, pin_is, answers_on, after_unpin, newest_pin, newest_unpin, publisher_kept, session_kept}
use Rattle.step_table.proofs.table.StepTable.close_plan.Goals as goal

pub close-requires : goal.close-requires
close-requires g c = let s = standing c.seat.inside.seat in let t = c.take-registry.ensures in let f = finds s 0 _ c.seat.invariant.number t.value.theme t.fits t.value.begins t.value.own t.value.known in
    let going = subst (λ v. closed_of v ≡ false) (sym c.seat.view_is) c.requires.open in
    record { can = close_can s 0 _ f going }

pub give-requires-clause-allowed : goal.give-requires-clause-allowed
give-requires-clause-allowed g c κs = let s = standing c.seat.inside.seat in let t = c.take-registry.ensures in let f = finds s 0 _ c.seat.invariant.number t.value.theme t.fits t.value.begins t.value.own t.value.known in
    let going = subst (λ v. closed_of v ≡ false) (sym c.seat.view_is) c.requires.open in
    let can = close_can s 0 _ f going in
    let d = c.close.ensures in left_allowed s 0 _ Close _ f can d.job d.journal

pub show-requires-clause-word : goal.show-requires-clause-word
show-requires-clause-word g c κs = let s = standing c.seat.inside.seat in let t = c.take-registry.ensures in let f = finds s 0 _ c.seat.invariant.number t.value.theme t.fits t.value.begins t.value.own t.value.known in
    let going = subst (λ v. closed_of v ≡ false) (sym c.seat.view_is) c.requires.open in
    let d = c.close.ensures in let now = stands s _ _ _ _ _ t.out c.give.ensures in let front = after_close s 0 _ _ f d.journal in
    let told = says_closed s.theme c.close.new.self.journal c.from.result (front.0 ∙ (sym c.seat.invariant.newest ∙ sym c.from.ensures)) front.1 in
    subst (λ h. Says h (2 * c.from.result + 1)) (sym (ap (λ (z : Stands). z.seen) now)) told

pub invariant_of-seat : goal.invariant_of-seat
invariant_of-seat g c = let s = standing c.seat.inside.seat in let t = c.take-registry.ensures in let f = finds s 0 _ c.seat.invariant.number t.value.theme t.fits t.value.begins t.value.own t.value.known in
    let going = subst (λ v. closed_of v ≡ false) (sym c.seat.view_is) c.requires.open in
    let can = close_can s 0 _ f going in
    let d = c.close.ensures in let now = stands s _ _ _ _ _ t.out c.give.ensures in let legal = left_legal s 0 _ Close _ f can d.job d.journal in let front = after_close s 0 _ _ f d.journal in
    publisher_kept s _ _ _ _ _ _ c.close.new.self.journal _ c.seat.invariant legal (c.seat.invariant.newest ∙ sym front.0) now c.show.ensures

pub returns-clause-event : goal.returns-clause-event
returns-clause-event g c = let s = standing c.seat.inside.seat in let t = c.take-registry.ensures in let f = finds s 0 _ c.seat.invariant.number t.value.theme t.fits t.value.begins t.value.own t.value.known in
    let going = subst (λ v. closed_of v ≡ false) (sym c.seat.view_is) c.requires.open in
    let can = close_can s 0 _ f going in
    let d = c.close.ensures in let now = stands s _ _ _ _ _ t.out c.give.ensures in let seen = ap (λ (z : Stands). z.seen) c.show.ensures ∙ ap (λ (z : Stands). z.seen) now in let theme = ap (λ (z : Stands). z.theme) c.show.ensures ∙ ap (λ (z : Stands). z.theme) now in
    subst (λ v. Adds v.job 0 v.seen v.words Close (standing c.show.new.seat).seen) c.seat.view_is
    (subst (λ h. Adds s.theme 0 s.seen s.known Close h) (sym seen) (turn_adds s 0 _ Close _ f can d.job d.journal))

pub returns-clause-published : goal.returns-clause-published
returns-clause-published g c = let s = standing c.seat.inside.seat in let t = c.take-registry.ensures in let f = finds s 0 _ c.seat.invariant.number t.value.theme t.fits t.value.begins t.value.own t.value.known in
    let d = c.close.ensures in let now = stands s _ _ _ _ _ t.out c.give.ensures in let seen = ap (λ (z : Stands). z.seen) c.show.ensures ∙ ap (λ (z : Stands). z.seen) now in let theme = ap (λ (z : Stands). z.theme) c.show.ensures ∙ ap (λ (z : Stands). z.theme) now in
    let front = after_close s 0 _ _ f d.journal in
    ap (λ j. (after j (standing c.show.new.seat).seen).newest) theme ∙ (ap (λ h. (after s.theme h).newest) seen ∙ (front.0 ∙ ap published_of c.seat.view_is))

pub returns-clause-closed : goal.returns-clause-closed
returns-clause-closed g c = let s = standing c.seat.inside.seat in let t = c.take-registry.ensures in let f = finds s 0 _ c.seat.invariant.number t.value.theme t.fits t.value.begins t.value.own t.value.known in
    let d = c.close.ensures in let now = stands s _ _ _ _ _ t.out c.give.ensures in let seen = ap (λ (z : Stands). z.seen) c.show.ensures ∙ ap (λ (z : Stands). z.seen) now in let theme = ap (λ (z : Stands). z.theme) c.show.ensures ∙ ap (λ (z : Stands). z.theme) now in
    let front = after_close s 0 _ _ f d.journal in
    ap (λ j. (after j (standing c.show.new.seat).seen).closed) theme ∙ (ap (λ h. (after s.theme h).closed) seen ∙ front.1)
