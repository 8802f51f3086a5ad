use Rattle.std.proofs.Common.{◌≡◌, ◌+◌, length}
use Rattle.edge_table.specs.Pairs.{IsPairsOf}
use Rattle.edge_table.proofs.tests.split_first.Given as goal

abbrev pub invariant-loop-i : goal.invariant-loop-i
invariant-loop-i l = (length l.table ≡ l.points + l.i) × IsPairsOf l.cells.items l.table
