use Rattle.std.proofs.Common.{◌≡◌, ◌≤◌, map}
use Rattle.std.specs.List.{range_with_len}
use Rattle.std.specs.Vec.{vec_capacity}
use Rattle.move_kernels.proofs.motion.one_by_one.Given as goal

abbrev pub invariant-loop-v : goal.invariant-loop-v
invariant-loop-v g l = (l.places.items ≡ map (g.M.Motion.place_of l.motion) (range_with_len 0 l.v)) × (l.count ≤ vec_capacity l.places)
