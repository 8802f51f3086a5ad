use Rattle.std.proofs.Common.{◌≡◌, take, None}
use Rattle.run_script.specs.Jobs.{wait_fault}
use Rattle.run_script.proofs.check.check_waits.Given as goal

abbrev pub invariant-loop-item : goal.invariant-loop-item
invariant-loop-item l = wait_fault l.steps (take l.item-index l.items) ≡ None
