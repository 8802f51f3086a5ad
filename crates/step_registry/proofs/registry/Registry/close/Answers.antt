use Rattle.std.proofs.Common.{rules, arith, ◌≡◌, length, sym, subst, vec_len}
use Rattle.step_registry.specs.declared.event.Event.TheVariants.{Close}
use Rattle.step_registry.specs.Core.{after, CanHappen}
use Rattle.step_registry.proofs.KeptSteps.{event_room, close_kept}
use Rattle.step_registry.proofs.registry.Registry.close.Goals as goal

pub push_reserved-requires : goal.push_reserved-requires
push_reserved-requires c = let can = subst (λ v. CanHappen v.job (after v.job v.journal) Close) (sym c.self.view_is) c.requires.can in
    let room = event_room _ _ _ _ _ _ _ _ _ Close c.self.invariant can in let len : vec_len c.self.inside.journal ≡ length c.self.inside.journal.items = search rules in omega arith

pub invariant_of-self : goal.invariant_of-self
invariant_of-self c = let can = subst (λ v. CanHappen v.job (after v.job v.journal) Close) (sym c.self.view_is) c.requires.can in
    rw (c.push_reserved.ensures.items, c.push_reserved.ensures.capacity) (close_kept _ _ _ _ _ _ _ _ _ c.self.invariant can)
