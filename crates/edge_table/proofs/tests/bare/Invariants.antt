use Rattle.std.proofs.Common.{◌≡◌, [], length}
use Rattle.edge_table.specs.Pairs.{IsPairsOf}
use Rattle.edge_table.proofs.tests.bare.Given as goal

abbrev pub invariant-loop-point : goal.invariant-loop-point
invariant-loop-point l = (length l.table ≡ l._point) × IsPairsOf [] l.table
