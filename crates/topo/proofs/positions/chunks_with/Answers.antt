use Rattle.std.proofs.Common.{◌≡◌, ◌∷◌, [], length, sym, ap, ◌∙◌, arith, length-append}
use Rattle.std.specs.Arc.{arc_value}
use Rattle.topo.specs.Chunks.{chunk_of}
use Rattle.topo.proofs.ChunkLaws.{front-push}
use Rattle.topo.proofs.positions.chunks_with.Goals as goal

pub loop-k-preserved : goal.loop-k-preserved
loop-k-preserved c =
    let xs = c.args.points.now in
    let cs = c.loop-k.chunks.items in
    let d = c.in_ok-chunk.chunk in
    let e : arc_value d ≡ chunk_of xs (length cs) = c.in_ok-chunk.ensures ∙ c.part_of.ensures ∙ ap (chunk_of xs) (sym c.loop-k.invariant.0) in
    rw c.push_reserved.ensures.items (omega (arith, length-append cs (d ∷ []), c.loop-k.invariant.0), front-push arc_value xs cs d c.loop-k.invariant.1 e)
