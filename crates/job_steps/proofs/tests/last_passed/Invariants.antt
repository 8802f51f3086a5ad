use Rattle.std.proofs.Common.{◌≡◌}
use Rattle.std.specs.Arc.{arc_value}
use Rattle.job_steps.proofs.tests.last_passed.Given as goal

abbrev pub invariant-loop-k : goal.invariant-loop-k
invariant-loop-k l = l.maker.job ≡ arc_value l.job
