use Rattle.std.proofs.Common.{◌≡◌, ◌∷◌, [], length, sym, ap, ◌∙◌, arith, length-append}
use Rattle.std.specs.Arc.{arc_value}
use Rattle.topo.specs.Chunks.{chunk_of}
use Rattle.topo.specs.Cells.{listed}
use Rattle.topo.proofs.ChunkLaws.{front-push}
use Rattle.topo.proofs.cells.cell_chunks.Goals as goal

pub loop-k-preserved : goal.loop-k-preserved
loop-k-preserved c =
    let xs = listed c.args.cells.now in
    let cs = c.loop-k.chunks.items in
    let d = c.in_ok-chunk.chunk in
    let e : arc_value d ≡ chunk_of xs (length cs) = c.in_ok-chunk.ensures.chunk ∙ ap (chunk_of xs) (sym c.loop-k.invariant.0) in
    rw c.push_reserved.ensures.items (omega (arith, length-append cs (d ∷ []), c.loop-k.invariant.0), c.cell_chunk.ensures.kept, front-push arc_value xs cs d c.loop-k.invariant.2 e)
