use Rattle.std.proofs.Common.{◌≡◌, length}
use Rattle.edge_table.specs.Pairs.{IsPairsOf}
use Rattle.edge_table.proofs.tests.fill.Given as goal

abbrev pub invariant-loop-four : goal.invariant-loop-four
invariant-loop-four l = (length l.table ≡ l.points) × IsPairsOf l.cells.items l.table
