use Rattle.std.proofs.Common.{◌≡◌, ◌+◌, ◌/◌, ◌<◌, ◌++◌, ◌∷◌, [], length, ap, subst, sym, ◌∙◌, arith, length-append}
use Rattle.std.specs.Arc.{arc_value}
use Rattle.topo.specs.Chunks.{AreChunks, chunk_of, full_chunks}
use Rattle.topo.proofs.ChunkLaws.{each-at, front-push, chunk-longer, chunk-behind}
use Rattle.topo.proofs.positions.Positions.chunks_joined.Goals as goal

pub loop-k-preserved : goal.loop-k-preserved
loop-k-preserved c =
    let own = c.self.inside.chunks.items in
    let s = c.args.self.now in
    let xs = s ++ c.args.added.now in
    let cs = c.loop-k.chunks.items in
    let k = c.loop-k.k in
    let d = c.in_ok-clone.field-0 in
    let full : c.self.inside.len / 4096 ≡ full_chunks s = omega (arith, ap length c.self.view_is, c.self.invariant.1) in
    let chunks = subst (λ l. AreChunks arc_value l own) c.self.view_is c.self.invariant.2 in
    let lt : k < full_chunks s = omega (arith, c.loop-k-test.true, full) in
    let old = each-at (λ j x. arc_value x ≡ chunk_of s j) own k c.index.result.now (omega (arith, lt, chunks.all)) c.index.ensures chunks.front.each in
    let e : arc_value d ≡ chunk_of xs (length cs) = c.in_ok-clone.ensures.cases ∙ old ∙ sym (chunk-longer s c.args.added.now k lt) ∙ ap (chunk_of xs) (sym c.loop-k.invariant.count) in
    rw c.push_reserved.ensures.items (record {
      count = omega (arith, length-append cs (d ∷ []), c.loop-k.invariant.count);
      room = omega (arith, c.push_reserved.ensures.capacity, c.loop-k.invariant.room);
      front = front-push arc_value xs cs d c.loop-k.invariant.front e;
    })

pub loop-k-2-preserved : goal.loop-k-2-preserved
loop-k-2-preserved c =
    let s = c.args.self.now in
    let xs = s ++ c.args.added.now in
    let cs = c.loop-k-2.chunks.items in
    let k = c.loop-k-2.k in
    let d = c.in_ok-chunk_with.field-0 in
    let at : full_chunks s + k ≡ length cs = omega (arith, ap length c.self.view_is, c.self.invariant.1, c.loop-k-2.invariant.count) in
    let e : arc_value d ≡ chunk_of xs (length cs) = c.in_ok-chunk_with.ensures ∙ c.part_of.ensures
    ∙ chunk-behind s c.args.added.now c.deref.result.now k (c.deref.ensures.value ∙ c.in_ok-rest.ensures) ∙ ap (chunk_of xs) at in
    rw c.push_reserved-in-loop-k-2.ensures.items (record {
      count = omega (arith, length-append cs (d ∷ []), c.loop-k-2.invariant.count);
      room = omega (arith, c.push_reserved-in-loop-k-2.ensures.capacity, c.loop-k-2.invariant.room);
      front = front-push arc_value xs cs d c.loop-k-2.invariant.front e;
    })
