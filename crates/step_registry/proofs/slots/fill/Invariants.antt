use Rattle.std.proofs.Common.{◌≡◌, vec_capacity}
use Rattle.std.specs.Prelude.{replicate}
use Rattle.step_registry.specs.Slots.{no_slot}
use Rattle.step_registry.proofs.slots.fill.Given as goal

abbrev pub invariant-loop-slot : goal.invariant-loop-slot
invariant-loop-slot l = (l.slots.items ≡ replicate l._slot no_slot) × (vec_capacity l.slots ≡ l.count)
