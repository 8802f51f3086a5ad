use Rattle.std.proofs.Common.{rules, arith, ◌≡◌, ◌<◌, ◌++◌, ◌∷◌, [], length, cond, sym, subst, ap, ◌∙◌, vec_len, Some, slice_index_or}
use Rattle.std.specs.Option.{is_some, IfSome}
use Rattle.run_script.specs.Jobs.{JobView, turns_of}
use Rattle.step_registry.specs.declared.event.Event.TheVariants.{Unpin}
use Rattle.step_registry.specs.declared.slots.Slot.{Slot}
use Rattle.step_registry.specs.Pins.{PinView, pin_of}
use Rattle.step_registry.specs.Core.{after, session_of, first_query, turn_at, turn_answers}
use Rattle.step_registry.specs.Slots.{no_slot}
use Rattle.step_registry.proofs.Drives.{slot-any, some_same, number_same, slot_there, slot_full, slot_asked, slots_unpin, turn_left}
use Rattle.step_registry.proofs.drive.drive_unpin.Goals as goal

pub boxes_asked-more-requires : goal.boxes_asked-more-requires
boxes_asked-more-requires g c =
    let k = c.requires.out.0 in let can = c.requires.out.1 in let view = c.args.registry.now in
    let own : view.job ≡ c.deref.result.now = sym (c.deref.ensures ∙ c.job.ensures) in
    let left = turn_left view _ _ c.args.slots.now.items c.args.session k c.requires.ready can.1 in record {
      session = subst (λ (j : JobView). c.args.session < length j.sessions) own can.0;
      turn = subst (λ (j : JobView). c.done-turn.result < length (turns_of j c.args.session)) own (subst (λ n. n < length (turns_of view.job c.args.session)) (sym c.done-turn.ensures) left);
    }

pub index-requires : goal.index-requires
index-requires g c =
    let lt = slot_there c.args.registry.now _ _ c.args.slots.now.items c.args.session c.requires.ready c.requires.out.1.0 in
    let len : vec_len c.args.slots.now ≡ length c.args.slots.now.items = search rules in omega arith

pub ask-requires : goal.ask-requires
ask-requires g c =
    let k = c.requires.out.0 in let can = c.requires.out.1 in let view = c.args.registry.now in let s = c.args.session in
    let pin = pin_of view.job s k in
    let lt = slot_there view _ _ c.args.slots.now.items s c.requires.ready can.0 in
    let at : c.index.result.now ≡ slice_index_or c.args.slots.now.items s no_slot = c.index.ensures ∙ slot-any c.args.slots.now.items s c.index.result.now no_slot lt in
    let full = slot_full view _ _ c.args.slots.now.items s k c.requires.ready can.0 can.1 in
    let asked = slot_asked view _ _ c.args.slots.now.items s c.requires.ready can.0 in
    let left = turn_left view _ _ c.args.slots.now.items s k c.requires.ready can.1 in
    record {
      full = (
        pin,
        ap (λ (x : Slot). x.pin) at ∙ full,
        sym c.requires.ready.job_is,
        subst (λ (j : JobView). s < length j.sessions) (sym c.requires.ready.job_is) can.0,
        subst (λ n. n < length (turns_of (g.W.Work.job c.args.work.now) s)) (sym c.done-turn.ensures) (subst (λ (j : JobView). (session_of (after view.job view.journal) s).done < length (turns_of j s)) (sym c.requires.ready.job_is) left),
        ap (λ (x : Slot). x.asked) at ∙ (asked ∙ (ap (λ (j : JobView). first_query (turns_of j s) (session_of (after view.job view.journal) s).done) (sym c.requires.ready.job_is) ∙ ap (first_query (turns_of (g.W.Work.job c.args.work.now) s)) (sym c.done-turn.ensures))),
      );
    }

pub take_slot-pin-requires-clause-there : goal.take_slot-pin-requires-clause-there
take_slot-pin-requires-clause-there g c = slot_there c.args.registry.now _ _ c.args.slots.now.items c.args.session c.requires.ready c.requires.out.1.0

pub take_slot-pin-requires-clause-full : goal.take_slot-pin-requires-clause-full
take_slot-pin-requires-clause-full g c =
    let k = c.requires.out.0 in let can = c.requires.out.1 in let view = c.args.registry.now in
    (pin_of view.job c.args.session k, slot_full view _ _ c.args.slots.now.items c.args.session k c.requires.ready can.0 can.1)

pub take_slot-pin-requires-clause-few : goal.take_slot-pin-requires-clause-few
take_slot-pin-requires-clause-few g c =
    let view = c.args.registry.now in let s = c.args.session in
    let own : c.deref.result.now ≡ view.job = c.deref.ensures ∙ c.job.ensures in
    let asked = slot_asked view _ _ c.args.slots.now.items s c.requires.ready c.requires.out.1.0 in
    let few = c.boxes_asked-more.ensures.few in
    let same : first_query (turns_of c.deref.result.now s) c.done-turn.result ≡ first_query (turns_of view.job s) (session_of (after view.job view.journal) s).done =
    ap (λ (j : JobView). first_query (turns_of j s) c.done-turn.result) own ∙ ap (first_query (turns_of view.job s)) c.done-turn.ensures in omega arith

pub unpin-requires-clause-job : goal.unpin-requires-clause-job
unpin-requires-clause-job g c =
    let k = c.requires.out.0 in let can = c.requires.out.1 in let view = c.args.registry.now in
    let full = slot_full view _ _ c.args.slots.now.items c.args.session k c.requires.ready can.0 can.1 in
    ap (λ (p : PinView). p.step.job) (some_same c.take_slot-pin.result (pin_of view.job c.args.session k) (c.take_slot-pin.ensures.pin ∙ full))

pub unpin-requires-clause-can : goal.unpin-requires-clause-can
unpin-requires-clause-can g c =
    let k = c.requires.out.0 in let can = c.requires.out.1 in let view = c.args.registry.now in
    let full = slot_full view _ _ c.args.slots.now.items c.args.session k c.requires.ready can.0 can.1 in
    let is = some_same c.take_slot-pin.result (pin_of view.job c.args.session k) (c.take_slot-pin.ensures.pin ∙ full) in
    subst (λ (p : PinView). (p.session < length view.job.sessions) × ((session_of (after view.job view.journal) p.session).out ≡ Some p.step.number)) (sym is) can

pub unpin-requires-clause-answers : goal.unpin-requires-clause-answers
unpin-requires-clause-answers g c =
    let k = c.requires.out.0 in let can = c.requires.out.1 in let view = c.args.registry.now in let s = c.args.session in
    let pin = pin_of view.job s k in
    let lt = slot_there view _ _ c.args.slots.now.items s c.requires.ready can.0 in
    let full = slot_full view _ _ c.args.slots.now.items s k c.requires.ready can.0 can.1 in
    let here : c.index.result.now.pin ≡ Some pin = ap (λ (x : Slot). x.pin) (c.index.ensures ∙ slot-any c.args.slots.now.items s c.index.result.now no_slot lt) ∙ full in
    let is = some_same c.take_slot-pin.result pin (c.take_slot-pin.ensures.pin ∙ full) in
    let given = (c.in_ok-answers.ensures.answers pin here).1 in
    let own = subst (λ (j : JobView). IfSome c.in_ok-answers.answers (λ list. list ≡ turn_answers j s c.done-turn.result k)) c.requires.ready.job_is given in
    let done = subst (λ n. IfSome c.in_ok-answers.answers (λ list. list ≡ turn_answers view.job s n k)) c.done-turn.ensures own in
    subst (λ (p : PinView). IfSome c.in_ok-answers.answers (λ list. list ≡ turn_answers view.job p.session (session_of (after view.job view.journal) p.session).done p.step.number)) (sym is) done

pub returns-clause-done : goal.returns-clause-done
returns-clause-done g c =
    let k = c.requires.out.0 in let can = c.requires.out.1 in let view = c.args.registry.now in let s = c.args.session in
    let pin = pin_of view.job s k in
    let lt = slot_there view _ _ c.args.slots.now.items s c.requires.ready can.0 in
    let full = slot_full view _ _ c.args.slots.now.items s k c.requires.ready can.0 can.1 in
    let here : c.index.result.now.pin ≡ Some pin = ap (λ (x : Slot). x.pin) (c.index.ensures ∙ slot-any c.args.slots.now.items s c.index.result.now no_slot lt) ∙ full in
    let is = some_same c.take_slot-pin.result pin (c.take_slot-pin.ensures.pin ∙ full) in
    let own : c.deref.result.now ≡ view.job = c.deref.ensures ∙ c.job.ensures in
    let more : c.boxes_asked-more.result ≡ cond c.args.answered (length (turn_at view.job s (session_of (after view.job view.journal) s).done).areas) 0 =
    c.boxes_asked-more.ensures.count ∙ (ap (λ (j : JobView). cond c.args.answered (length (turn_at j s c.done-turn.result).areas) 0) own ∙ ap (λ n. cond c.args.answered (length (turn_at view.job s n).areas) 0) c.done-turn.ensures) in
    λ j other. let same : k ≡ j = number_same k j (sym can.1 ∙ other.1) in (
      c.unpin.ensures.journal ∙ (ap (λ (p : PinView). view.journal ++ Unpin p.session p.step.number (is_some c.in_ok-answers.answers) ∷ []) is
          ∙ (ap (λ b. view.journal ++ Unpin s k b ∷ []) (c.in_ok-answers.ensures.answers pin here).0 ∙ ap (λ n. view.journal ++ Unpin s n c.args.answered ∷ []) same)),
      slots_unpin view _ _ c.args.slots.now.items s j c.boxes_asked-more.result c.args.answered c.take_slot-pin.new.slots.items c.requires.ready other more c.take_slot-pin.ensures.slots,
    )
