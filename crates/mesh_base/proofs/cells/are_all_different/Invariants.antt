use Rattle.std.proofs.Common.{take}
use Rattle.mesh_base.specs.Mesh.{AreAllDifferent}
use Rattle.mesh_base.proofs.cells.are_all_different.Given as goal

abbrev pub invariant-loop-cell : goal.invariant-loop-cell
invariant-loop-cell l = AreAllDifferent (take l.cell-index l.cells)
