use Rattle.cell_box.specs.Rows.{IsCounted, corners_before}
use Rattle.cell_box.proofs.rows.count_all.Given as goal

abbrev pub invariant-loop-i : goal.invariant-loop-i
invariant-loop-i l = IsCounted (corners_before l.shape.cells l.i) l.starts
