use Rattle.std.proofs.Common.{◌≡◌, ◌+◌, ap, sym, ◌∙◌, unwrap_or}
use Rattle.indexmap.specs.IndexMap.{insert_entry}
use Rattle.mesh_base.specs.Mesh.{face_eq}
use Rattle.face_table.specs.Tally.{tally_in}
use Rattle.face_table.proofs.Sums.{rewritten, insert-tally, insert-share, insert-others, tally_more}
use Rattle.face_table.proofs.counts.count_up.Goals as goal

pub returns-in-Some-clause-tally : goal.returns-in-Some-clause-tally
returns-in-Some-clause-tally c f =
    let es = c.args.counts.now.entries in
    let e = rewritten es c.insert_full.new.self.entries c.args.face c.in_ok-place.place c.in-Some.n c.in_ok-place.ensures.entries c.in_ok-place.ensures.index (sym c.in_ok-place.ensures.old ∙ c.in-Some.is) in
    insert-tally es _ c.args.face f _ e ∙ tally_more es c.args.face f

pub returns-in-Some-clause-singles : goal.returns-in-Some-clause-singles
returns-in-Some-clause-singles c v =
    let es = c.args.counts.now.entries in
    let e = rewritten es c.insert_full.new.self.entries c.args.face c.in_ok-place.place c.in-Some.n c.in_ok-place.ensures.entries c.in_ok-place.ensures.index (sym c.in_ok-place.ensures.old ∙ c.in-Some.is) in
    insert-share es _ c.args.face _ v e

pub returns-in-None-clause-singles : goal.returns-in-None-clause-singles
returns-in-None-clause-singles c v =
    let es = c.args.counts.now.entries in
    let z : tally_in es c.args.face ≡ 0 = ap (λ o. unwrap_or o 0) (sym c.in_ok-place.ensures.old ∙ c.in-None.is) in
    insert-share es _ c.args.face _ v (c.in_ok-place.ensures.entries ∙ ap (λ n. insert_entry face_eq es c.args.face (n + 1)) (sym z))

pub returns-in-Some-clause-others : goal.returns-in-Some-clause-others
returns-in-Some-clause-others c f h n =
    let es = c.args.counts.now.entries in
    let e = rewritten es c.insert_full.new.self.entries c.args.face c.in_ok-place.place c.in-Some.n c.in_ok-place.ensures.entries c.in_ok-place.ensures.index (sym c.in_ok-place.ensures.old ∙ c.in-Some.is) in
    insert-others es _ c.args.face f _ e h n
