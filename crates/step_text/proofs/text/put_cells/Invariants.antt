use Rattle.std.proofs.Common.{◌≡◌, ◌++◌, ◌*◌, take}
use Rattle.vtk_legacy.specs.Written.{cells_spelling}
use Rattle.step_text.proofs.text.put_cells.Given as goal

abbrev pub invariant-loop-k : goal.invariant-loop-k
invariant-loop-k l = l.out.items ≡ l.fn.out.items ++ cells_spelling (take (4096 * l.k) l.shape.cells)
