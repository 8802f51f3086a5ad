use Rattle.std.proofs.Common.{◌≡◌, ◌++◌, ◌+◌, ◌≤◌, length, vec_capacity, vec_len}
use Rattle.step_registry.specs.Slots.{pins_in}
use Rattle.step_registry.proofs.slots.collect.Given as goal

abbrev pub invariant-loop-slots : goal.invariant-loop-slots
invariant-loop-slots l = (l.pins.items ++ pins_in l.slots.items ≡ pins_in l.initial.slots.items) × (length l.pins.items + length l.slots.items ≤ vec_capacity l.pins)

abbrev pub decreases-loop-slots : goal.decreases-loop-slots
decreases-loop-slots l = vec_len l.slots
