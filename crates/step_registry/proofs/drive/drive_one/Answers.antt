use Rattle.std.proofs.Common.{◌≡◌, ℕ, sym, subst, ap, ◌∙◌, refl}
use Rattle.step_view.specs.StepView.{StepView}
use Rattle.step_registry.specs.declared.event.Event.TheVariants.{Publish, Pin, Unpin, Close}
use Rattle.step_registry.specs.Pins.{PinView, pin_of}
use Rattle.step_registry.specs.Core.{after, CanHappen}
use Rattle.step_registry.proofs.Drives.{slot_there, slot_empty, slots_pin, ready_more, on_ok1, on_ok2}
use Rattle.step_registry.proofs.drive.drive_one.Goals as goal

pub put_slot-requires-clause-there : goal.put_slot-requires-clause-there
put_slot-requires-clause-there g c = let can = subst (CanHappen c.args.registry.now.job (after c.args.registry.now.job c.args.registry.now.journal)) c.in-Pin.is c.requires.can in
    slot_there c.args.registry.now _ _ c.args.slots.now.items c.in-Pin.session c.requires.ready can.0

pub put_slot-requires-clause-empty : goal.put_slot-requires-clause-empty
put_slot-requires-clause-empty g c = let can = subst (CanHappen c.args.registry.now.job (after c.args.registry.now.job c.args.registry.now.journal)) c.in-Pin.is c.requires.can in
    slot_empty c.args.registry.now _ _ c.args.slots.now.items c.in-Pin.session c.requires.ready can.0 can.1

pub returns-in-Publish-clause-ready : goal.returns-in-Publish-clause-ready
returns-in-Publish-clause-ready g c =
    let view = c.args.registry.now in let st = after view.job view.journal in
    let can = subst (CanHappen view.job st) (c.in-Publish.is) c.requires.can in let next = c.requires.ready.next_is in
    let now : CanHappen view.job st (Publish (g.W.Work.next c.args.work.now)) = subst (λ k. CanHappen view.job st (Publish k)) (can.0 ∙ sym next) can in
    on_ok2 c.drive_publish.result _ _ _ c.drive_publish.ensures.done c.drive_publish.ensures.made
    (λ done made. ready_more c.args.registry.now _ _ c.args.slots.now.items (Publish (g.W.Work.next c.args.work.now)) c.drive_publish.new.registry _ _ c.args.slots.now.items c.requires.ready now c.drive_publish.ensures.job done c.drive_publish.ensures.same made c.requires.ready.slots_are)

pub returns-in-Pin-clause-ready : goal.returns-in-Pin-clause-ready
returns-in-Pin-clause-ready g c = let can = subst (CanHappen c.args.registry.now.job (after c.args.registry.now.job c.args.registry.now.journal)) c.in-Pin.is c.requires.can in
    let view = c.args.registry.now in let st = after view.job view.journal in
    let now : CanHappen view.job st (Pin c.in-Pin.session st.newest) = subst (λ k. CanHappen view.job st (Pin c.in-Pin.session k)) can.5 can in
    let is : c.pin-pin.result ≡ pin_of view.job c.in-Pin.session st.newest = ap (λ (n : ℕ). let p : PinView = record { session = n; step = c.pin-pin.result.step } in p) c.pin-pin.ensures.session ∙ ap (λ (v : StepView). let p : PinView = record { session = c.in-Pin.session; step = v } in p) c.pin-pin.ensures.step in
    ready_more c.args.registry.now _ _ c.args.slots.now.items (Pin c.in-Pin.session st.newest) c.pin-pin.new.self _ _ c.put_slot.new.slots.items c.requires.ready now c.pin-pin.ensures.job c.pin-pin.ensures.journal refl c.requires.ready.next_is
    (slots_pin c.args.registry.now _ _ c.args.slots.now.items c.in-Pin.session st.newest c.pin-pin.result c.put_slot.new.slots.items c.requires.ready can.0 is c.put_slot.ensures)

pub returns-in-Unpin-clause-ready : goal.returns-in-Unpin-clause-ready
returns-in-Unpin-clause-ready g c =
    let view = c.args.registry.now in let st = after view.job view.journal in
    let can = subst (CanHappen view.job st) c.in-Unpin.is c.requires.can in
    on_ok1 c.drive_unpin.result _ _ c.drive_unpin.ensures.done
    (λ done. let both = done c.in-Unpin.step can in ready_more c.args.registry.now _ _ c.args.slots.now.items (Unpin c.in-Unpin.session c.in-Unpin.step c.in-Unpin.answered) c.drive_unpin.new.registry _ _ c.drive_unpin.new.slots.items c.requires.ready can c.drive_unpin.ensures.job both.0 c.drive_unpin.ensures.same
    (c.drive_unpin.ensures.stays ∙ c.requires.ready.next_is) both.1)

pub returns-in-Close-clause-ready : goal.returns-in-Close-clause-ready
returns-in-Close-clause-ready g c =
    let view = c.args.registry.now in let st = after view.job view.journal in
    let can = subst (CanHappen view.job st) c.in-Close.is c.requires.can in
    ready_more c.args.registry.now _ _ c.args.slots.now.items Close c.close.new.self _ _ c.args.slots.now.items c.requires.ready can c.close.ensures.job c.close.ensures.journal refl c.requires.ready.next_is c.requires.ready.slots_are
