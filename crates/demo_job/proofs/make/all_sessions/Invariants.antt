use Rattle.std.proofs.Common.{◌≡◌, replicate}
use Rattle.demo_job.specs.Demo.{demo_items}
use Rattle.demo_job.proofs.make.all_sessions.Given as goal

abbrev pub invariant-loop : goal.invariant-loop
invariant-loop l = l.sessions.items ≡ replicate l.counter (demo_items l.n)
