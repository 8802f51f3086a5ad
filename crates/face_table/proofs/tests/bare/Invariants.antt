use Rattle.std.proofs.Common.{◌≡◌, []}
use Rattle.face_table.specs.Tally.{IsTallyOf}
use Rattle.face_table.proofs.tests.bare.Given as goal

abbrev pub invariant-loop-point : goal.invariant-loop-point
invariant-loop-point l = (l.table.points ≡ l._point) × IsTallyOf [] l.table
