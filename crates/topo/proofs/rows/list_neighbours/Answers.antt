use Rattle.std.proofs.Common.{◌≡◌, ◌+◌, inl, inr, ap, ◌∙◌, subst, arith, length, length-append, [], ◌∷◌, ◌++◌}
use Rattle.std.proofs.lemmas.Bool.{cases_lt}
use Rattle.topo.specs.Tables.{IsRowAt}
use Rattle.topo.specs.RowChunks.{row_of}
use Rattle.topo.proofs.TopologyLaws.{row-kept, row-new, start-new}
use Rattle.topo.proofs.rows.list_neighbours.Goals as goal

pub loop-j-preserved : goal.loop-j-preserved
loop-j-preserved c =
    let v = c.loop-j.j in
    let t = c.args.tables.now in
    let starts = c.loop-j.starts.items in
    let near = c.loop-j.near.items in
    let more = c.neighbours.result.now in
    let e = c.len.result in
    let inv = c.loop-j.invariant in
    let near_is = c.in_ok-extend_from_slice.ensures.items in
    let end : e ≡ length (near ++ more) = omega (arith, c.len.ensures, c.extend_from_slice.new.self.ok.0, ap length near_is) in
    rw (c.in_ok-push-2.ensures.items, near_is) (
      omega (arith, length-append starts (e ∷ []), inv.0),
      start-new starts v e inv.0 ∙ end,
      λ u lt. elim (cases_lt u v) [
        | inl before ↦ row-kept starts near more _ v u e inv.0 before (inv.2 u before)
        | inr after ↦
            let now : v ≡ u = omega arith in
            subst (λ k. IsRowAt (starts ++ e ∷ []) (near ++ more) k (row_of t (c.args.first + k))) now
            (subst (IsRowAt (starts ++ e ∷ []) (near ++ more) v) c.neighbours.ensures.listed (row-new starts near more v e inv.0 inv.1 end))
      ],
    )
