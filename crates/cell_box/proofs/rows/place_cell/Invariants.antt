use Rattle.std.proofs.Common.{◌++◌, length, map, take}
use Rattle.cell_box.specs.Rows.{IsPlaced, corners_before}
use Rattle.cell_box.proofs.rows.place_cell.Given as goal

abbrev pub invariant-loop-v : goal.invariant-loop-v
invariant-loop-v l =
    IsPlaced (corners_before l.shape.cells (length l.shape.cells)) (corners_before l.shape.cells l.i ++ map (λ v. (v, l.i)) (take l.v-index l.v-items)) l.starts l.numbers
