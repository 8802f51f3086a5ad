use Rattle.std.proofs.Common.{◌≡◌}
use Rattle.run_threads.specs.Ends.{IsReady}
use Rattle.run_threads.proofs.publisher.publish_all.Given as goal

abbrev pub invariant-loop-step : goal.invariant-loop-step
invariant-loop-step g l = IsReady l.table.lock l.seat l.maker × (l.maker.made ≡ l._step) × (l.maker.job ≡ l.job)
