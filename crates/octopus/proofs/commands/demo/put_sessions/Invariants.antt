use Rattle.std.proofs.Common.{◌≡◌, ◌++◌}
use Rattle.octopus.specs.Demo.{lines_by}
use Rattle.octopus.proofs.commands.demo.put_sessions.Given as goal

abbrev pub invariant-loop-session : goal.invariant-loop-session
invariant-loop-session l = l.out.items ≡ l.fn.out.items ++ lines_by l.answers l.session
