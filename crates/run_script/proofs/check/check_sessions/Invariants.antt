use Rattle.std.proofs.Common.{◌≡◌, take, None}
use Rattle.run_script.specs.Jobs.{wait_fault, items_of}
use Rattle.run_script.proofs.check.check_sessions.Given as goal

abbrev pub invariant-loop-items : goal.invariant-loop-items
invariant-loop-items l = wait_fault l.steps (items_of (take l.items-index l.sessions)) ≡ None
