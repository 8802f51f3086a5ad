use Rattle.std.proofs.Common.{◌≡◌}
use Rattle.job_steps.specs.MakerView.{maker_at}
use Rattle.octopus.proofs.commands.step.make_step.Given as goal

abbrev pub invariant-loop : goal.invariant-loop
invariant-loop l = l.maker ≡ maker_at l.fn.job l.counter
