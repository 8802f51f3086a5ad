use Rattle.std.proofs.Common.{◌≡◌, replicate, Some}
use Rattle.step_view.proofs.shares.Shares.make.Given as goal

abbrev pub invariant-loop-session : goal.invariant-loop-session
invariant-loop-session l = l.row.items ≡ replicate l._session (Some l.step)
