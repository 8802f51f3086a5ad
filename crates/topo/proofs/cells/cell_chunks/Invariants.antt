use Rattle.std.proofs.Common.{◌≡◌, length}
use Rattle.std.specs.Arc.{arc_value}
use Rattle.topo.specs.Chunks.{AreFront, Each, Kept, chunk_of}
use Rattle.topo.specs.Cells.{listed}
use Rattle.topo.proofs.cells.cell_chunks.Given as goal

abbrev pub invariant-loop-k : goal.invariant-loop-k
invariant-loop-k l = (length l.chunks.items ≡ l.k) × Each (Kept (λ j c. arc_value c ≡ chunk_of (listed l.cells) j)) l.kept.items × AreFront arc_value (listed l.cells) l.chunks.items
