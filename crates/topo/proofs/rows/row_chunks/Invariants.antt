use Rattle.std.proofs.Common.{◌≡◌, length}
use Rattle.std.specs.Arc.{arc_value}
use Rattle.topo.specs.Chunks.{Each, Kept}
use Rattle.topo.specs.RowChunks.{IsRowChunk}
use Rattle.topo.proofs.rows.row_chunks.Given as goal

abbrev pub invariant-loop-k : goal.invariant-loop-k
invariant-loop-k l = (length l.chunks.items ≡ l.k) × Each (Kept (λ j c. IsRowChunk l.tables j (arc_value c))) l.kept.items × Each (λ j c. IsRowChunk l.tables j (arc_value c)) l.chunks.items
