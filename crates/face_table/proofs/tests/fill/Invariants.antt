use Rattle.std.proofs.Common.{◌≡◌}
use Rattle.face_table.specs.Tally.{IsTallyOf}
use Rattle.face_table.proofs.tests.fill.Given as goal

abbrev pub invariant-loop-four : goal.invariant-loop-four
invariant-loop-four l = (l.table.points ≡ l.points) × IsTallyOf l.cells.items l.table
