use Rattle.std.proofs.Common.{◌≡◌, replicate}
use Rattle.demo_job.specs.Demo.{demo_plan}
use Rattle.demo_job.proofs.make.all_plans.Given as goal

abbrev pub invariant-loop : goal.invariant-loop
invariant-loop l = l.plans.items ≡ replicate l.counter (demo_plan l.seed)
