use Rattle.std.proofs.Common.{◌≡◌, ◌++◌}
use Rattle.report.specs.ByAnswers.{sessions_part}
use Rattle.report.proofs.answers.put_sessions.Given as goal

abbrev pub invariant-loop-session : goal.invariant-loop-session
invariant-loop-session l = l.out.items ≡ l.fn.out.items ++ sessions_part l.job l.answers l.session
