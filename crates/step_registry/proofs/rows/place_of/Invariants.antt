use Rattle.std.proofs.Common.{◌≢◌, ℕ, ◌<◌}
use Rattle.step_registry.specs.Rows.{number_at}
use Rattle.step_registry.proofs.rows.place_of.Given as goal

abbrev pub invariant-loop-i : goal.invariant-loop-i
invariant-loop-i l = (k : ℕ) → k < l.i → number_at l.rows k ≢ l.number
