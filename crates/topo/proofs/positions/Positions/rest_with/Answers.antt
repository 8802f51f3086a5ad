use Rattle.std.proofs.Common.{◌≡◌, ◌<◌, ◌≤◌, ◌/◌, ◌++◌, length, get_or, ap, subst, sym, ◌∙◌, arith}
use Rattle.std.specs.Arc.{arc_value}
use Rattle.topo.specs.Chunks.{AreChunks, full_chunks}
use Rattle.topo.proofs.ChunkLaws.{behind-chunk, behind-none}
use Rattle.topo.proofs.positions.Positions.rest_with.Goals as goal
use Rattle.topo.proofs.positions.Positions.rest_with.Goals.{in-Some+in_ok-extend_from_slice, in_default}

pub returns : goal.returns
returns c =
    let cs = c.self.inside.chunks.items in
    let s = c.args.self.now in
    let full : c.self.inside.len / 4096 ≡ full_chunks s = omega (arith, ap length c.self.view_is, c.self.invariant.1) in
    let chunks = subst (λ l. AreChunks arc_value l cs) c.self.view_is c.self.invariant.2 in
    elim c.match-get.branch [
      | in-Some+in_ok-extend_from_slice w ↦
          let at = w.in-Some.ensures.lookup in
          let lt : full_chunks s < length cs = omega (arith, at.3.0, c.deref.ensures.len, full) in
          let is = at.1 ∙ ap (λ l. get_or l (c.self.inside.len / 4096) w.in-Some.chunk.now) c.deref.ensures.value ∙ ap (λ k. get_or cs k w.in-Some.chunk.now) full in
          let last = w.deref-in-Some-2.ensures.value ∙ w.behind-chunk.view_is ∙ w.deref-in-Some.ensures ∙ behind-chunk arc_value s cs w.in-Some.chunk.now lt is chunks in
          c.in_ok-extend_from_slice-2.ensures.items ∙ ap (λ r. r.items ++ c.args.added.now) w.rest-is
          ∙ ap (λ l. l ++ c.args.added.now) (w.in_ok-extend_from_slice.ensures.items ∙ ap (λ l. l ++ w.deref-in-Some-2.result.now) c.new-rest.ensures.items ∙ last)
      | in_default w ↦
          let few : length cs ≤ full_chunks s = omega (arith, w.in_default.ensures.lookup, c.deref.ensures.len, full) in
          c.in_ok-extend_from_slice-2.ensures.items ∙ ap (λ r. r.items ++ c.args.added.now) w.rest-is
          ∙ ap (λ l. l ++ c.args.added.now) (c.new-rest.ensures.items ∙ sym (behind-none s (length cs) chunks.all few))
    ]
