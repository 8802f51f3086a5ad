use Rattle.std.proofs.Common.{ℕ, ◌≤◌, ◌<◌}
use Rattle.std.specs.Prelude.{slice_index}
use Rattle.box_watch.proofs.difference.first_from.Given as goal

abbrev pub invariant-loop-place : goal.invariant-loop-place
invariant-loop-place l = (k : ℕ) → l.from ≤ k → k < l.place → slice_index l.numbers k < l.x
