use Rattle.std.proofs.Common.{◌≡◌}
use Rattle.face_table.specs.Tally.{IsTallyOf}
use Rattle.face_table.proofs.tests.clear.Given as goal

abbrev pub invariant-loop-i : goal.invariant-loop-i
invariant-loop-i l = (l.table.points ≡ l.fn.table.points) × IsTallyOf l.cells.items l.table
