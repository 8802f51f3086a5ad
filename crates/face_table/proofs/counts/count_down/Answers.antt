use Rattle.std.proofs.Common.{◌≡◌, ◌+◌, ◌-◌, cond, ap, sym, ◌∙◌, arith}
use Rattle.mesh_base.specs.Mesh.{face_eq}
use Rattle.face_table.specs.Tally.{tally_in, single_share}
use Rattle.face_table.proofs.Sums.{removed-share, removed-tally, counted_at, place_within, written, insert-tally, insert-share, insert-others, tally_less}
use Rattle.face_table.proofs.counts.count_down.Goals as goal

pub returns-then-before-eq1-clause-tally : goal.returns-then-before-eq1-clause-tally
returns-then-before-eq1-clause-tally c f =
    let es = c.args.counts.now.entries in
    let k = c.args.face.now in
    let at = sym c.get_index_of.ensures.index ∙ c.unwrap-place.ensures in
    let n = counted_at es k c.unwrap-place.result c.index-before.result.now at c.index-before.ensures in
    let r = removed-tally c.args.counts.now c.swap_remove_index.new.self k f c.unwrap-place.result c.swap_remove_index.result at c.swap_remove_index.ensures.entry c.swap_remove_index.ensures.updates (place_within es k c.unwrap-place.result at) in
    ap (λ t. t + cond (face_eq k f) 1 0) r ∙ tally_less es k f 0 (sym c.if-before-eq1.true ∙ sym n)

pub returns-then-before-eq1-clause-singles : goal.returns-then-before-eq1-clause-singles
returns-then-before-eq1-clause-singles c v =
    let es = c.args.counts.now.entries in
    let k = c.args.face.now in
    let at = sym c.get_index_of.ensures.index ∙ c.unwrap-place.ensures in
    let n = counted_at es k c.unwrap-place.result c.index-before.result.now at c.index-before.ensures in
    let s = removed-share es c.swap_remove_index.new.self.entries k c.unwrap-place.result c.index-before.result.now v c.swap_remove_index.result at n c.swap_remove_index.ensures.entry c.swap_remove_index.ensures.entries (place_within es k c.unwrap-place.result at) in
    let z : single_share v (k, c.index-before.result.now - 1) ≡ 0 = ap (λ m. single_share v (k, m - 1)) c.if-before-eq1.true in
    omega (arith, s, z)

pub returns-else-before-eq1-clause-tally : goal.returns-else-before-eq1-clause-tally
returns-else-before-eq1-clause-tally c f =
    let es = c.args.counts.now.entries in
    let k = c.args.face.now in
    let n = c.index-before.result.now in
    let at = sym c.get_index_of.ensures.index ∙ c.unwrap-place.ensures in
    let t : tally_in es k ≡ n = counted_at es k c.unwrap-place.result n at c.index-before.ensures in
    let r = insert-tally es _ k f (n - 1) (written es k c.unwrap-place.result (n - 1) at) in
    let there = c.requires.there in
    ap (λ t. t + cond (face_eq k f) 1 0) r ∙ tally_less es k f (n - 1) (omega (arith, t, there))

pub returns-else-before-eq1-clause-singles : goal.returns-else-before-eq1-clause-singles
returns-else-before-eq1-clause-singles c v =
    let es = c.args.counts.now.entries in
    let k = c.args.face.now in
    let n = c.index-before.result.now in
    let at = sym c.get_index_of.ensures.index ∙ c.unwrap-place.ensures in
    let t : tally_in es k ≡ n = counted_at es k c.unwrap-place.result n at c.index-before.ensures in
    let s = insert-share es _ k (n - 1) v (written es k c.unwrap-place.result (n - 1) at) in
    let e : single_share v (k, tally_in es k) ≡ single_share v (k, n) = ap (λ m. single_share v (k, m)) t in
    omega (arith, s, e)

pub returns-else-before-eq1-clause-others : goal.returns-else-before-eq1-clause-others
returns-else-before-eq1-clause-others c f h n =
    let es = c.args.counts.now.entries in
    let k = c.args.face.now in
    let at = sym c.get_index_of.ensures.index ∙ c.unwrap-place.ensures in
    insert-others es _ k f (c.index-before.result.now - 1) (written es k c.unwrap-place.result (c.index-before.result.now - 1) at) h n
