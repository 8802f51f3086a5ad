use Rattle.std.proofs.Common.{rules, arith, ◌≡◌, ℕ, ◌+◌, ◌*◌, ◌/◌, ◌<◌, ◌≤◌, List, [], ◌∷◌, ◌++◌, length, IfOk, Option, Some, None, Bool, true, false, map, sym, subst, ap, ◌∙◌}
use Rattle.std.specs.Option.{option_to_list, is_some, IfSome}
use Rattle.run_script.specs.Jobs.{JobView, turns_of, steps}
use Rattle.step_registry.specs.Core.{turn_at}
use Rattle.step_view.specs.StepView.{StepView}
use Rattle.step_view.specs.Rows.{SharesView}
use Rattle.turn_table.specs.Seats.{standing}
use Rattle.step_registry.specs.declared.event.Event.{Event}
use Rattle.step_registry.specs.declared.event.Event.TheVariants.{Publish, Pin, Unpin, Close}
use Rattle.step_registry.specs.declared.event.SessionState.{SessionState}
use Rattle.step_registry.specs.Pins.{PinView, pin_of}
use Rattle.step_registry.specs.Core.{after, session_of, pinned, unpinned, CanHappen, IsLegal, freed_by, turn_answers}
use Rattle.step_view.specs.Rows.{all_shares}
use Rattle.step_registry.specs.SeatLaws.{Says}
use Rattle.step_registry.specs.Laws.{RegistryView}
use Rattle.step_table.specs.Seats.{PublisherView, SessionView, published_of, closed_of, state_of, next_turn, earlier, Follows, Adds}
use Rattle.step_table.specs.Seating.{Stands}
use Rattle.step_table.proofs.Steps.{says_open, says_closed, known_on, state_same, earlier_is}
use Rattle.step_table.proofs.Turning.{finds, turned, stands, close_can, publish_can, pin_can, unpin_can, left_legal, left_allowed, turn_adds, after_publish, after_close, after_pin, pin_is, answers_on, after_unpin, newest_pin, newest_unpin, publisher_kept, session_kept}
use Rattle.step_table.proofs.table.StepTable.unpin.Goals as goal

pub unpin-freed-requires-clause-can : goal.unpin-freed-requires-clause-can
unpin-freed-requires-clause-can g c = let s = standing c.seat.inside.seat in let t = c.take-registry.ensures in let f = finds s (c.seat.inside.session + 1) _ c.seat.invariant.number t.value.theme t.fits t.value.begins t.value.own t.value.known in
    let there = c.seat.invariant.there in let who : c.args.pin.session ≡ c.seat.inside.session = c.requires.session ∙ ap (λ v. v.session) (sym c.seat.view_is) in let out = subst (λ v. (state_of v).out ≡ Some c.args.pin.step.number) (sym c.seat.view_is) c.requires.out in
    let can = subst (λ m. CanHappen c.take-registry.result.0.job (after c.take-registry.result.0.job c.take-registry.result.0.journal) (Unpin m c.args.pin.step.number (is_some c.args.answers))) (sym who) (unpin_can s 0 _ c.seat.inside.session c.args.pin.step.number (is_some c.args.answers) f there out) in
    can

pub unpin-freed-requires-clause-answers : goal.unpin-freed-requires-clause-answers
unpin-freed-requires-clause-answers g c = let s = standing c.seat.inside.seat in let t = c.take-registry.ensures in let f = finds s (c.seat.inside.session + 1) _ c.seat.invariant.number t.value.theme t.fits t.value.begins t.value.own t.value.known in
    let there = c.seat.invariant.there in let who : c.args.pin.session ≡ c.seat.inside.session = c.requires.session ∙ ap (λ v. v.session) (sym c.seat.view_is) in
    answers_on s c.take-registry.result.0 c.seat.inside.session c.args.pin.session c.args.pin.step.number c.args.answers f there who
    (subst (λ v. IfSome c.args.answers (λ list. list ≡ turn_answers v.job v.session (state_of v).done c.args.pin.step.number)) (sym c.seat.view_is) c.requires.answers)

pub give-requires-clause-entry : goal.give-requires-clause-entry
give-requires-clause-entry g c κs = let s = standing c.seat.inside.seat in let t = c.take-registry.ensures in let f = finds s (c.seat.inside.session + 1) _ c.seat.invariant.number t.value.theme t.fits t.value.begins t.value.own t.value.known in
    let who : c.args.pin.session ≡ c.seat.inside.session = c.requires.session ∙ ap (λ v. v.session) (sym c.seat.view_is) in let d = c.unpin-freed.ensures in (Unpin c.args.pin.session c.args.pin.step.number (is_some c.args.answers), d.journal ∙ ap (λ h. h ++ Unpin c.args.pin.session c.args.pin.step.number (is_some c.args.answers) ∷ []) (sym (ap (λ (z : Stands). z.taken) t.out)), ap (λ m. m + 1) who ∙ sym (ap (λ (z : Stands). z.number) t.out ∙ c.seat.invariant.number))

pub give-requires-clause-allowed : goal.give-requires-clause-allowed
give-requires-clause-allowed g c κs = let s = standing c.seat.inside.seat in let t = c.take-registry.ensures in let f = finds s (c.seat.inside.session + 1) _ c.seat.invariant.number t.value.theme t.fits t.value.begins t.value.own t.value.known in
    let there = c.seat.invariant.there in let who : c.args.pin.session ≡ c.seat.inside.session = c.requires.session ∙ ap (λ v. v.session) (sym c.seat.view_is) in let out = subst (λ v. (state_of v).out ≡ Some c.args.pin.step.number) (sym c.seat.view_is) c.requires.out in
    let can = subst (λ m. CanHappen c.take-registry.result.0.job (after c.take-registry.result.0.job c.take-registry.result.0.journal) (Unpin m c.args.pin.step.number (is_some c.args.answers))) (sym who) (unpin_can s 0 _ c.seat.inside.session c.args.pin.step.number (is_some c.args.answers) f there out) in
    let d = c.unpin-freed.ensures in left_allowed s (c.seat.inside.session + 1) _ (Unpin c.args.pin.session _ _) _ f can d.job d.journal

pub invariant_of-seat : goal.invariant_of-seat
invariant_of-seat g c = let s = standing c.seat.inside.seat in let t = c.take-registry.ensures in let f = finds s (c.seat.inside.session + 1) _ c.seat.invariant.number t.value.theme t.fits t.value.begins t.value.own t.value.known in
    let there = c.seat.invariant.there in let who : c.args.pin.session ≡ c.seat.inside.session = c.requires.session ∙ ap (λ v. v.session) (sym c.seat.view_is) in let out = subst (λ v. (state_of v).out ≡ Some c.args.pin.step.number) (sym c.seat.view_is) c.requires.out in
    let can = subst (λ m. CanHappen c.take-registry.result.0.job (after c.take-registry.result.0.job c.take-registry.result.0.journal) (Unpin m c.args.pin.step.number (is_some c.args.answers))) (sym who) (unpin_can s 0 _ c.seat.inside.session c.args.pin.step.number (is_some c.args.answers) f there out) in
    let d = c.unpin-freed.ensures in let now = stands s _ _ _ _ _ t.out c.give.ensures in let journal = d.journal ∙ ap (λ m. c.take-registry.result.0.journal ++ Unpin m c.args.pin.step.number (is_some c.args.answers) ∷ []) who in
    let legal = left_legal s (c.seat.inside.session + 1) _ (Unpin c.args.pin.session _ _) _ f can d.job d.journal in let newest = newest_unpin s 0 c.take-registry.result.0 c.seat.inside.session c.args.pin.step.number (is_some c.args.answers) _ journal in
    let low = c.seat.invariant.step c.take-registry.result.0.journal f.legal f.follows in
    session_kept s _ _ _ _ c.unpin-freed.new.self.journal c.seat.invariant.number there legal (known_on s.theme (c.seat.inside.session + 1) c.unpin-freed.new.self.journal s.known c.seat.inside.known (omega arith)) (c.done-done.ensures ∙ ap (λ j. (session_of (after j c.unpin-freed.new.self.journal) c.seat.inside.session).done) (d.job ∙ f.job)) now

pub returns-clause-event : goal.returns-clause-event
returns-clause-event g c = let s = standing c.seat.inside.seat in let t = c.take-registry.ensures in let f = finds s (c.seat.inside.session + 1) _ c.seat.invariant.number t.value.theme t.fits t.value.begins t.value.own t.value.known in
    let there = c.seat.invariant.there in let who : c.args.pin.session ≡ c.seat.inside.session = c.requires.session ∙ ap (λ v. v.session) (sym c.seat.view_is) in let out = subst (λ v. (state_of v).out ≡ Some c.args.pin.step.number) (sym c.seat.view_is) c.requires.out in
    let can = subst (λ m. CanHappen c.take-registry.result.0.job (after c.take-registry.result.0.job c.take-registry.result.0.journal) (Unpin m c.args.pin.step.number (is_some c.args.answers))) (sym who) (unpin_can s 0 _ c.seat.inside.session c.args.pin.step.number (is_some c.args.answers) f there out) in
    let d = c.unpin-freed.ensures in let now = stands s _ _ _ _ _ t.out c.give.ensures in let seen = ap (λ (z : Stands). z.seen) now in let theme = ap (λ (z : Stands). z.theme) now in
    subst (λ v. Adds v.job (v.session + 1) v.seen v.words (Unpin v.session c.args.pin.step.number (is_some c.args.answers)) (standing c.give.new.seat).seen) c.seat.view_is
    (subst (λ m. Adds s.theme (c.seat.inside.session + 1) s.seen s.known (Unpin m c.args.pin.step.number (is_some c.args.answers)) (standing c.give.new.seat).seen) who
    (subst (λ h. Adds s.theme (c.seat.inside.session + 1) s.seen s.known (Unpin c.args.pin.session c.args.pin.step.number (is_some c.args.answers)) h) (sym seen) (turn_adds s (c.seat.inside.session + 1) _ (Unpin c.args.pin.session _ _) _ f can d.job d.journal)))

pub returns-clause-state : goal.returns-clause-state
returns-clause-state g c = let s = standing c.seat.inside.seat in let t = c.take-registry.ensures in let f = finds s (c.seat.inside.session + 1) _ c.seat.invariant.number t.value.theme t.fits t.value.begins t.value.own t.value.known in
    let there = c.seat.invariant.there in let who : c.args.pin.session ≡ c.seat.inside.session = c.requires.session ∙ ap (λ v. v.session) (sym c.seat.view_is) in let d = c.unpin-freed.ensures in let now = stands s _ _ _ _ _ t.out c.give.ensures in let seen = ap (λ (z : Stands). z.seen) now in let theme = ap (λ (z : Stands). z.theme) now in
    let journal = d.journal ∙ ap (λ m. c.take-registry.result.0.journal ++ Unpin m c.args.pin.step.number (is_some c.args.answers) ∷ []) who in
    let state = after_unpin s 0 _ c.seat.inside.session c.args.pin.step.number (is_some c.args.answers) _ f there journal in
    ap (λ j. session_of (after j (standing c.give.new.seat).seen) c.seat.inside.session) theme ∙ (ap (λ h. session_of (after s.theme h) c.seat.inside.session) seen ∙ (state ∙ ap (λ v. unpinned (is_some c.args.answers) (state_of v)) c.seat.view_is))
