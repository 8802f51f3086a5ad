use Rattle.std.proofs.Common.{◌≡◌, map}
use Rattle.std.specs.List.{range_with_len}
use Rattle.sample_meshes.specs.Block.{grid_place}
use Rattle.sample_meshes.proofs.block.block_points.Given as goal

abbrev pub invariant-loop-v : goal.invariant-loop-v
invariant-loop-v l = l.points.items ≡ map (grid_place l.side) (range_with_len 0 l.v)
