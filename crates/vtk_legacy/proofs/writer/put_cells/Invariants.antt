use Rattle.std.proofs.Common.{◌≡◌, ◌++◌, take, flat_map}
use Rattle.vtk_legacy.proofs.WrittenLists.{maybe_line}
use Rattle.vtk_legacy.proofs.writer.put_cells.Given as goal

abbrev pub invariant-loop-cell : goal.invariant-loop-cell
invariant-loop-cell l = l.out.items ≡ l.fn.out.items ++ flat_map maybe_line (take l.cell-index l.cells)
