use Rattle.std.proofs.Common.{rules, arith, ◌≡◌, ℕ, ◌+◌, ◌*◌, ◌/◌, ◌<◌, ◌≤◌, List, [], ◌∷◌, ◌++◌, length, IfOk, Option, Some, None, Bool, true, false, map, sym, subst, ap, ◌∙◌}
use Rattle.std.specs.Option.{option_to_list, is_some, IfSome}
use Rattle.run_script.specs.Jobs.{JobView, turns_of, steps}
use Rattle.step_registry.specs.Core.{turn_at}
use Rattle.step_view.specs.StepView.{StepView}
use Rattle.step_view.specs.Rows.{SharesView}
use Rattle.turn_table.specs.Seats.{standing}
use Rattle.step_registry.specs.declared.event.Event.{Event}
use Rattle.step_registry.specs.declared.event.Event.TheVariants.{Publish, Pin, Unpin, Close}
use Rattle.step_registry.specs.declared.event.SessionState.{SessionState}
use Rattle.step_registry.specs.Pins.{PinView, pin_of}
use Rattle.step_registry.specs.Core.{after, session_of, pinned, unpinned, CanHappen, IsLegal, freed_by, turn_answers}
use Rattle.step_view.specs.Rows.{all_shares}
use Rattle.step_registry.specs.SeatLaws.{Says}
use Rattle.step_registry.specs.Laws.{RegistryView}
use Rattle.step_table.specs.Seats.{PublisherView, SessionView, published_of, closed_of, state_of, next_turn, earlier, Follows, Adds}
use Rattle.step_table.specs.Seating.{Stands}
use Rattle.step_table.proofs.Steps.{says_open, says_closed, known_on, state_same, earlier_is}
use Rattle.step_table.proofs.Turning.{finds, turned, stands, close_can, publish_can, pin_can, unpin_can, left_legal, left_allowed, turn_adds, after_publish, after_close, after_pin, pin_is, answers_on, after_unpin, newest_pin, newest_unpin, publisher_kept, session_kept}
use Rattle.step_table.proofs.table.StepTable.pin.Goals as goal

pub pin-pin-requires : goal.pin-pin-requires
pin-pin-requires g c = let s = standing c.seat.inside.seat in let t = c.take-registry.ensures in let f = finds s (c.seat.inside.session + 1) _ c.seat.invariant.number t.value.theme t.fits t.value.begins t.value.own t.value.known in
    let there = c.seat.invariant.there in let out = subst (λ v. (state_of v).out ≡ None) (sym c.seat.view_is) c.requires.none_out in let goes = subst (λ v. (state_of v).is_stopped ≡ false) (sym c.seat.view_is) c.requires.goes in
    let left = subst (λ v. (state_of v).done < length (turns_of v.job v.session)) (sym c.seat.view_is) c.requires.left in let need = subst (λ v. (next_turn v).need ≤ v.known) (sym c.seat.view_is) c.requires.need in
    record { can = pin_can s 0 _ c.seat.inside.session c.seat.inside.known f there c.seat.invariant.step out goes left need }

pub give-requires-clause-entry : goal.give-requires-clause-entry
give-requires-clause-entry g c κs = let s = standing c.seat.inside.seat in let t = c.take-registry.ensures in let f = finds s (c.seat.inside.session + 1) _ c.seat.invariant.number t.value.theme t.fits t.value.begins t.value.own t.value.known in
    let n = (after c.take-registry.result.0.job c.take-registry.result.0.journal).newest in let d = c.pin-pin.ensures in (Pin c.seat.inside.session n, d.journal ∙ ap (λ h. h ++ Pin c.seat.inside.session n ∷ []) (sym (ap (λ (z : Stands). z.taken) t.out)), sym (ap (λ (z : Stands). z.number) t.out ∙ c.seat.invariant.number))

pub give-requires-clause-allowed : goal.give-requires-clause-allowed
give-requires-clause-allowed g c κs = let s = standing c.seat.inside.seat in let t = c.take-registry.ensures in let f = finds s (c.seat.inside.session + 1) _ c.seat.invariant.number t.value.theme t.fits t.value.begins t.value.own t.value.known in
    let there = c.seat.invariant.there in let out = subst (λ v. (state_of v).out ≡ None) (sym c.seat.view_is) c.requires.none_out in let goes = subst (λ v. (state_of v).is_stopped ≡ false) (sym c.seat.view_is) c.requires.goes in
    let left = subst (λ v. (state_of v).done < length (turns_of v.job v.session)) (sym c.seat.view_is) c.requires.left in let need = subst (λ v. (next_turn v).need ≤ v.known) (sym c.seat.view_is) c.requires.need in
    let can = pin_can s 0 _ c.seat.inside.session c.seat.inside.known f there c.seat.invariant.step out goes left need in
    let n = (after c.take-registry.result.0.job c.take-registry.result.0.journal).newest in let d = c.pin-pin.ensures in left_allowed s (c.seat.inside.session + 1) _ (Pin _ n) _ f can d.job d.journal

pub invariant_of-seat : goal.invariant_of-seat
invariant_of-seat g c = let s = standing c.seat.inside.seat in let t = c.take-registry.ensures in let f = finds s (c.seat.inside.session + 1) _ c.seat.invariant.number t.value.theme t.fits t.value.begins t.value.own t.value.known in
    let there = c.seat.invariant.there in let out = subst (λ v. (state_of v).out ≡ None) (sym c.seat.view_is) c.requires.none_out in let goes = subst (λ v. (state_of v).is_stopped ≡ false) (sym c.seat.view_is) c.requires.goes in
    let left = subst (λ v. (state_of v).done < length (turns_of v.job v.session)) (sym c.seat.view_is) c.requires.left in let need = subst (λ v. (next_turn v).need ≤ v.known) (sym c.seat.view_is) c.requires.need in
    let can = pin_can s 0 _ c.seat.inside.session c.seat.inside.known f there c.seat.invariant.step out goes left need in
    let n = (after c.take-registry.result.0.job c.take-registry.result.0.journal).newest in let d = c.pin-pin.ensures in let now = stands s _ _ _ _ _ t.out c.give.ensures in let legal = left_legal s (c.seat.inside.session + 1) _ (Pin _ n) _ f can d.job d.journal in let state = after_pin s 0 _ _ _ _ f there d.journal in let newest = newest_pin s 0 c.take-registry.result.0 c.seat.inside.session n _ d.journal in let same : n ≡ (after s.theme c.take-registry.result.0.journal).newest = ap (λ j. (after j c.take-registry.result.0.journal).newest) f.job in let number : c.pin-pin.result.step.number ≡ n = ap (λ (x : StepView). x.number) d.step in
    let k : c.number-seat-inside.result ≡ n = c.number-seat-inside.ensures.number ∙ number in
    session_kept s _ _ _ _ c.pin-pin.new.self.journal c.seat.invariant.number there legal (known_on s.theme (c.seat.inside.session + 1) c.pin-pin.new.self.journal s.known c.number-seat-inside.result (omega arith)) (c.seat.invariant.turns ∙ sym (ap (λ (me : SessionState). me.done) state)) now

pub returns-clause-event : goal.returns-clause-event
returns-clause-event g c = let s = standing c.seat.inside.seat in let t = c.take-registry.ensures in let f = finds s (c.seat.inside.session + 1) _ c.seat.invariant.number t.value.theme t.fits t.value.begins t.value.own t.value.known in
    let there = c.seat.invariant.there in let out = subst (λ v. (state_of v).out ≡ None) (sym c.seat.view_is) c.requires.none_out in let goes = subst (λ v. (state_of v).is_stopped ≡ false) (sym c.seat.view_is) c.requires.goes in
    let left = subst (λ v. (state_of v).done < length (turns_of v.job v.session)) (sym c.seat.view_is) c.requires.left in let need = subst (λ v. (next_turn v).need ≤ v.known) (sym c.seat.view_is) c.requires.need in
    let can = pin_can s 0 _ c.seat.inside.session c.seat.inside.known f there c.seat.invariant.step out goes left need in
    let n = (after c.take-registry.result.0.job c.take-registry.result.0.journal).newest in let d = c.pin-pin.ensures in let now = stands s _ _ _ _ _ t.out c.give.ensures in let seen = ap (λ (z : Stands). z.seen) now in let theme = ap (λ (z : Stands). z.theme) now in
    let number : c.pin-pin.result.step.number ≡ n = ap (λ (x : StepView). x.number) d.step in
    subst (λ v. Adds v.job (v.session + 1) v.seen v.words (Pin v.session c.pin-pin.result.step.number) (standing c.give.new.seat).seen) c.seat.view_is
    (subst (λ k. Adds s.theme (c.seat.inside.session + 1) s.seen s.known (Pin c.seat.inside.session k) (standing c.give.new.seat).seen) (sym number)
    (subst (λ h. Adds s.theme (c.seat.inside.session + 1) s.seen s.known (Pin c.seat.inside.session n) h) (sym seen) (turn_adds s (c.seat.inside.session + 1) _ (Pin _ n) _ f can d.job d.journal)))

pub returns-clause-pin : goal.returns-clause-pin
returns-clause-pin g c = let s = standing c.seat.inside.seat in let t = c.take-registry.ensures in let f = finds s (c.seat.inside.session + 1) _ c.seat.invariant.number t.value.theme t.fits t.value.begins t.value.own t.value.known in
    let n = (after c.take-registry.result.0.job c.take-registry.result.0.journal).newest in let d = c.pin-pin.ensures in let now = stands s _ _ _ _ _ t.out c.give.ensures in let seen = ap (λ (z : Stands). z.seen) now in let theme = ap (λ (z : Stands). z.theme) now in
    let newest = newest_pin s 0 c.take-registry.result.0 c.seat.inside.session n _ d.journal in let same : n ≡ (after s.theme c.take-registry.result.0.journal).newest = ap (λ j. (after j c.take-registry.result.0.journal).newest) f.job in
    let k : n ≡ (after s.theme (standing c.give.new.seat).seen).newest = same ∙ (sym newest ∙ ap (λ h. (after s.theme h).newest) (sym seen)) in
    let pin : (v : SessionView) → PinView = λ v. pin_of v.job v.session (after v.job (standing c.give.new.seat).seen).newest in
    pin_is c.pin-pin.result c.seat.inside.session c.take-registry.result.0.job s.theme n (after s.theme (standing c.give.new.seat).seen).newest d.session d.step f.job k ∙ ap pin c.seat.view_is

pub returns-clause-fresh : goal.returns-clause-fresh
returns-clause-fresh g c = let s = standing c.seat.inside.seat in let t = c.take-registry.ensures in let f = finds s (c.seat.inside.session + 1) _ c.seat.invariant.number t.value.theme t.fits t.value.begins t.value.own t.value.known in
    let n = (after c.take-registry.result.0.job c.take-registry.result.0.journal).newest in let d = c.pin-pin.ensures in let same : n ≡ (after s.theme c.take-registry.result.0.journal).newest = ap (λ j. (after j c.take-registry.result.0.journal).newest) f.job in let number : c.pin-pin.result.step.number ≡ n = ap (λ (x : StepView). x.number) d.step in
    let low = c.seat.invariant.step c.take-registry.result.0.journal f.legal f.follows in
    subst (λ v. v.known ≤ c.pin-pin.result.step.number) c.seat.view_is (omega arith)

pub returns-clause-state : goal.returns-clause-state
returns-clause-state g c = let s = standing c.seat.inside.seat in let t = c.take-registry.ensures in let f = finds s (c.seat.inside.session + 1) _ c.seat.invariant.number t.value.theme t.fits t.value.begins t.value.own t.value.known in
    let there = c.seat.invariant.there in let n = (after c.take-registry.result.0.job c.take-registry.result.0.journal).newest in let d = c.pin-pin.ensures in let now = stands s _ _ _ _ _ t.out c.give.ensures in let seen = ap (λ (z : Stands). z.seen) now in let theme = ap (λ (z : Stands). z.theme) now in
    let state = after_pin s 0 _ _ _ _ f there d.journal in let number : c.pin-pin.result.step.number ≡ n = ap (λ (x : StepView). x.number) d.step in
    ap (λ j. session_of (after j (standing c.give.new.seat).seen) c.seat.inside.session) theme ∙ (ap (λ h. session_of (after s.theme h) c.seat.inside.session) seen ∙ (state ∙ (ap (λ k. pinned k (session_of (after s.theme s.seen) c.seat.inside.session)) (sym number) ∙ ap (λ v. pinned c.pin-pin.result.step.number (state_of v)) c.seat.view_is)))
