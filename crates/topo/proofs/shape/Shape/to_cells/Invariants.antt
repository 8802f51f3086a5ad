use Rattle.std.proofs.Common.{◌≡◌, flat_map, take}
use Rattle.std.specs.Arc.{arc_value}
use Rattle.topo.proofs.shape.Shape.to_cells.Given as goal

abbrev pub invariant-loop-chunk : goal.invariant-loop-chunk
invariant-loop-chunk l = l.cells.items ≡ flat_map arc_value (take l.chunk-index l.chunk-items)
