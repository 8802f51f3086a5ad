use Rattle.std.proofs.Common.{length}
use Rattle.cell_box.specs.Rows.{IsPlaced, corners_before}
use Rattle.cell_box.proofs.rows.place_all.Given as goal

abbrev pub invariant-loop-i : goal.invariant-loop-i
invariant-loop-i l = IsPlaced (corners_before l.shape.cells (length l.shape.cells)) (corners_before l.shape.cells l.i) l.starts l.numbers
