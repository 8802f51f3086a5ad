use Rattle.std.proofs.Common.{◌≡◌, length}
use Rattle.std.specs.Arc.{arc_value}
use Rattle.topo.specs.Chunks.{AreFront}
use Rattle.topo.proofs.positions.chunks_with.Given as goal

abbrev pub invariant-loop-k : goal.invariant-loop-k
invariant-loop-k l = (length l.chunks.items ≡ l.k) × AreFront arc_value l.points l.chunks.items
