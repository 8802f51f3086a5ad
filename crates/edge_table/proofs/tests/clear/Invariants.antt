use Rattle.std.proofs.Common.{◌≡◌, length}
use Rattle.edge_table.specs.Pairs.{IsPairsOf}
use Rattle.edge_table.proofs.tests.clear.Given as goal

abbrev pub invariant-loop-i : goal.invariant-loop-i
invariant-loop-i l = (length l.table ≡ length l.fn.table) × IsPairsOf l.cells.items l.table
