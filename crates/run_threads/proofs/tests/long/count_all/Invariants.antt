use Rattle.std.proofs.Common.{◌≡◌}
use Rattle.run_threads.proofs.tests.long.count_all.Given as goal

abbrev pub invariant-loop-k : goal.invariant-loop-k
invariant-loop-k l = l.maker.job ≡ l.registry.job
