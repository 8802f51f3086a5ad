use Rattle.std.proofs.Common.{rules, ◌<◌, ◌++◌, ◌∷◌, [], length, map, sym, subst, ap, ◌∙◌, append_assoc}
use Rattle.std.specs.List.{remove}
use Rattle.step_registry.specs.Core.{after}
use Rattle.step_registry.specs.Runs.{CanGiveUp, give_event}
use Rattle.step_registry.proofs.Drives.{cons_of, give_first, give_after}
use Rattle.step_registry.proofs.registry.Registry.give_up.Goals as goal

pub unpin-requires-clause-job : goal.unpin-requires-clause-job
unpin-requires-clause-job c =
    let some : 0 < length c.loop-items.items.items = search rules in let cut = cons_of c.loop-items.items.items c.remove-pin.result some c.remove-pin.ensures.value in
    (give_first _ _ _ _ (subst (CanGiveUp c.loop-items.self.job (after c.loop-items.self.job c.loop-items.self.journal)) cut c.loop-items.invariant.1)).0

pub unpin-requires-clause-can : goal.unpin-requires-clause-can
unpin-requires-clause-can c =
    let some : 0 < length c.loop-items.items.items = search rules in let cut = cons_of c.loop-items.items.items c.remove-pin.result some c.remove-pin.ensures.value in
    (give_first _ _ _ _ (subst (CanGiveUp c.loop-items.self.job (after c.loop-items.self.job c.loop-items.self.journal)) cut c.loop-items.invariant.1)).1

pub loop-items-preserved : goal.loop-items-preserved
loop-items-preserved c =
    let inv = c.loop-items.invariant in let some : 0 < length c.loop-items.items.items = search rules in
    let cut = cons_of c.loop-items.items.items c.remove-pin.result some c.remove-pin.ensures.value in
    let give = subst (CanGiveUp c.loop-items.self.job (after c.loop-items.self.job c.loop-items.self.journal)) cut inv.1 in
    rw c.remove-pin.ensures.items (
      c.unpin.ensures.job ∙ inv.0,
      give_after c.loop-items.self.job c.unpin.new.self.job c.loop-items.self.journal c.unpin.new.self.journal c.remove-pin.result (remove c.loop-items.items.items 0) c.unpin.ensures.job c.unpin.ensures.journal give,
      ap (λ l. l ++ map give_event (remove c.loop-items.items.items 0)) c.unpin.ensures.journal ∙ (append_assoc c.loop-items.self.journal (give_event c.remove-pin.result ∷ []) (map give_event (remove c.loop-items.items.items 0)) ∙ (ap (λ l. c.loop-items.self.journal ++ map give_event l) (sym cut) ∙ inv.2)),
    )
