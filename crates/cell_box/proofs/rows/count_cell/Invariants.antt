use Rattle.std.proofs.Common.{◌++◌, map, take}
use Rattle.cell_box.specs.Rows.{IsCounted, corners_before}
use Rattle.cell_box.proofs.rows.count_cell.Given as goal

abbrev pub invariant-loop-v : goal.invariant-loop-v
invariant-loop-v l = IsCounted (corners_before l.shape.cells l.i ++ map (λ v. (v, l.i)) (take l.v-index l.v-items)) l.starts
