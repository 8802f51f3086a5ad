use Rattle.std.proofs.Common.{◌≡◌, ◌+◌, ◌++◌, cond, refl, ap, sym, ◌∙◌, arith}
use Rattle.mesh_base.specs.Mesh.{face_eq}
use Rattle.face_table.specs.Tally.{tally_in, single_share, single_count}
use Rattle.face_table.proofs.CornerLemmas.{tally_more_by}
use Rattle.face_table.proofs.Homes.{homes_set, homes_more, set_tally, set_singles, past_tally, more_tally, more_singles}
use Rattle.face_table.proofs.face_counts.FaceCounts.count_new.Goals as goal

pub invariant_of-self : goal.invariant_of-self
invariant_of-self c = homes_set c.self.inside.known.items c.self.inside.more.entries c.args.face c.in-Some.i 2 c.in-Some.ensures c.self.invariant

pub count_new-requires-clause-new : goal.count_new-requires-clause-new
count_new-requires-clause-new c = sym (past_tally c.self.inside.known.items c.self.inside.more.entries c.args.face c.in-None.ensures) ∙ ap (λ t. tally_in t.entries c.args.face) c.self.view_is ∙ c.requires.new

pub invariant_of-self-in-None : goal.invariant_of-self-in-None
invariant_of-self-in-None c = homes_more c.self.inside.known.items c.self.inside.more.entries c.count_new.new.counts.entries c.args.face c.in-None.ensures c.count_new.ensures.others c.self.invariant

pub returns-in-Some-clause-tally : goal.returns-in-Some-clause-tally
returns-in-Some-clause-tally c f =
    let all = c.self.inside.known.items ++ c.self.inside.more.entries in
    let z : 0 ≡ tally_in all c.args.face = sym (ap (λ t. tally_in t.entries c.args.face) c.self.view_is ∙ c.requires.new) in
    set_tally c.self.inside.known.items c.self.inside.more.entries c.args.face f c.in-Some.i 2 c.in-Some.ensures c.self.invariant
    ∙ ap (λ n. cond (face_eq c.args.face f) (n + 2) (tally_in all f)) z ∙ tally_more_by all c.args.face f 2
    ∙ ap (λ t. tally_in t.entries f + cond (face_eq c.args.face f) 2 0) c.self.view_is

pub returns-in-Some-clause-singles : goal.returns-in-Some-clause-singles
returns-in-Some-clause-singles c v =
    let s = set_singles c.self.inside.known.items c.self.inside.more.entries c.args.face c.in-Some.i 2 v c.in-Some.ensures c.self.invariant in
    let z : single_share v (c.args.face, tally_in (c.self.inside.known.items ++ c.self.inside.more.entries) c.args.face) ≡ 0 = ap (λ n. single_share v (c.args.face, n)) (ap (λ t. tally_in t.entries c.args.face) c.self.view_is ∙ c.requires.new) in
    let t : single_share v (c.args.face, 2) ≡ 0 = refl in
    let d = ap (λ t. single_count t.entries v) c.self.view_is in
    omega (arith, s, z, t, d)

pub returns-in-None-clause-tally : goal.returns-in-None-clause-tally
returns-in-None-clause-tally c f =
    let m = more_tally c.self.inside.known.items c.self.inside.more.entries c.count_new.new.counts.entries f c.self.invariant (invariant_of-self-in-None c) in
    let w = ap (λ t. tally_in t.entries f) c.self.view_is in
    omega (arith, m, w, c.count_new.ensures.tally f)

pub returns-in-None-clause-singles : goal.returns-in-None-clause-singles
returns-in-None-clause-singles c v =
    let m = more_singles c.self.inside.known.items c.self.inside.more.entries c.count_new.new.counts.entries v in
    let d = ap (λ t. single_count t.entries v) c.self.view_is in
    omega (arith, m, d, c.count_new.ensures.singles v)
