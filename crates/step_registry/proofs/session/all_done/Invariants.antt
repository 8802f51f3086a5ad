use Rattle.step_registry.specs.Core.{AllDone}
use Rattle.step_registry.proofs.session.all_done.Given as goal

abbrev pub invariant-loop-s : goal.invariant-loop-s
invariant-loop-s l = AllDone l.job l.sessions l.s
