use Rattle.std.proofs.Common.{◌≡◌, take}
use Rattle.step_registry.specs.Rows.{numbers}
use Rattle.step_registry.proofs.rows.held_numbers.Given as goal

abbrev pub invariant-loop-row : goal.invariant-loop-row
invariant-loop-row l = l.held.items ≡ numbers (take l.row-index l.rows)
