use Rattle.std.proofs.Common.{rules, arith, ◌≡◌, length, sym, subst, vec_len}
use Rattle.step_registry.specs.declared.event.Event.TheVariants.{Pin}
use Rattle.step_registry.specs.Core.{after, CanHappen}
use Rattle.step_registry.proofs.KeptSteps.{event_room, pin_left, pin_kept, pin_can}
use Rattle.step_registry.proofs.registry.Registry.pin.Goals as goal

pub take-step-requires : goal.take-step-requires
take-step-requires c = let can = subst (λ v. CanHappen v.job (after v.job v.journal) (Pin c.args.s (after v.job v.journal).newest)) (sym c.self.view_is) c.requires.can in
    (pin_left _ _ _ _ _ _ _ _ _ c.args.s _ c.self.invariant can).1

pub pin_session-requires : goal.pin_session-requires
pin_session-requires c = let can = subst (λ v. CanHappen v.job (after v.job v.journal) (Pin c.args.s (after v.job v.journal).newest)) (sym c.self.view_is) c.requires.can in
    (pin_left _ _ _ _ _ _ _ _ _ c.args.s _ c.self.invariant can).0

pub push_reserved-requires : goal.push_reserved-requires
push_reserved-requires c = let can = subst (λ v. CanHappen v.job (after v.job v.journal) (Pin c.args.s (after v.job v.journal).newest)) (sym c.self.view_is) c.requires.can in
    let room = event_room _ _ _ _ _ _ _ _ _ (Pin c.args.s _) c.self.invariant can in let len : vec_len c.self.inside.journal ≡ length c.self.inside.journal.items = search rules in omega arith

pub invariant_of-self : goal.invariant_of-self
invariant_of-self c = let can = subst (λ v. CanHappen v.job (after v.job v.journal) (Pin c.args.s (after v.job v.journal).newest)) (sym c.self.view_is) c.requires.can in
    rw (c.push_reserved.ensures.items, c.push_reserved.ensures.capacity, c.pin_session.ensures) (pin_kept _ _ _ _ _ _ _ _ _ c.args.s c.self.inside.newest c.take-step.new.self c.self.invariant (pin_can _ _ _ _ _ _ _ _ _ c.args.s c.self.invariant can) c.take-step.ensures.step c.take-step.ensures.count)
