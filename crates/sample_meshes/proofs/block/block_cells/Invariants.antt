use Rattle.std.proofs.Common.{◌≡◌, ◌+◌, map, Some}
use Rattle.std.specs.List.{range_with_len}
use Rattle.mesh_base.specs.Mesh.{AreWithin, AreAllDifferent}
use Rattle.sample_meshes.specs.Block.{block_cell, cubed}
use Rattle.sample_meshes.proofs.block.block_cells.Given as goal

abbrev pub invariant-loop-t : goal.invariant-loop-t
invariant-loop-t l =
    (l.cells.items ≡ map (λ t. Some (block_cell l.n t)) (range_with_len 0 l.t)) × AreWithin (cubed (l.n + 1)) l.cells.items × AreAllDifferent l.cells.items
