use Rattle.std.proofs.Common.{◌≡◌, ◌+◌, ◌≤◌, ◌++◌, length}
use Rattle.std.specs.Arc.{arc_value}
use Rattle.std.specs.Vec.{vec_capacity}
use Rattle.topo.specs.Chunks.{AreFront}
use Rattle.topo.proofs.positions.Positions.chunks_joined.Given as goal

abbrev pub invariant-loop-k : goal.invariant-loop-k
invariant-loop-k l = record {
  count : length l.chunks.items ≡ l.k;
  room : l.full + l.behind ≤ vec_capacity l.chunks;
  front : AreFront arc_value (l.self ++ l.added) l.chunks.items;
}

abbrev pub invariant-loop-k-2 : goal.invariant-loop-k-2
invariant-loop-k-2 l = record {
  count : length l.chunks.items ≡ l.full + l.k;
  room : l.full + l.behind ≤ vec_capacity l.chunks;
  front : AreFront arc_value (l.self ++ l.added) l.chunks.items;
}
