use Rattle.std.proofs.Common.{◌+◌, ◌-◌, ◌++◌, cond, ap, sym, ◌∙◌, arith}
use Rattle.mesh_base.specs.Mesh.{face_eq}
use Rattle.face_table.specs.Tally.{tally_in, single_share, single_count}
use Rattle.face_table.proofs.Sums.{tally_less}
use Rattle.face_table.proofs.Homes.{homes_set, homes_more, set_tally, set_singles, read_tally, past_tally, more_tally, more_singles}
use Rattle.face_table.proofs.face_counts.FaceCounts.count_down.Goals as goal

pub overflow_sub-before : goal.overflow_sub-before
overflow_sub-before c = omega (arith, read_tally c.self.inside.known.items c.self.inside.more.entries c.args.face.now c.in-Some.i c.index.result.now c.index.ensures c.in-Some.ensures, ap (λ t. tally_in t.entries c.args.face.now) c.self.view_is, c.requires.there)

pub invariant_of-self : goal.invariant_of-self
invariant_of-self c = homes_set c.self.inside.known.items c.self.inside.more.entries c.args.face.now c.in-Some.i (c.index.result.now.1 - 1) c.in-Some.ensures c.self.invariant

pub count_down-requires : goal.count_down-requires
count_down-requires c = record { there = omega (arith, past_tally c.self.inside.known.items c.self.inside.more.entries c.args.face.now c.in-None.ensures, ap (λ t. tally_in t.entries c.args.face.now) c.self.view_is, c.requires.there) }

pub invariant_of-self-in-None : goal.invariant_of-self-in-None
invariant_of-self-in-None c = homes_more c.self.inside.known.items c.self.inside.more.entries c.count_down.new.counts.entries c.args.face.now c.in-None.ensures c.count_down.ensures.others c.self.invariant

pub returns-in-Some-clause-before : goal.returns-in-Some-clause-before
returns-in-Some-clause-before c = sym (read_tally c.self.inside.known.items c.self.inside.more.entries c.args.face.now c.in-Some.i c.index.result.now c.index.ensures c.in-Some.ensures) ∙ ap (λ t. tally_in t.entries c.args.face.now) c.self.view_is

pub returns-in-Some-clause-tally : goal.returns-in-Some-clause-tally
returns-in-Some-clause-tally c f =
    let all = c.self.inside.known.items ++ c.self.inside.more.entries in
    ap (λ n. n + cond (face_eq c.args.face.now f) 1 0) (set_tally c.self.inside.known.items c.self.inside.more.entries c.args.face.now f c.in-Some.i (c.index.result.now.1 - 1) c.in-Some.ensures c.self.invariant)
    ∙ tally_less all c.args.face.now f (c.index.result.now.1 - 1) (omega (arith, read_tally c.self.inside.known.items c.self.inside.more.entries c.args.face.now c.in-Some.i c.index.result.now c.index.ensures c.in-Some.ensures, ap (λ t. tally_in t.entries c.args.face.now) c.self.view_is, c.requires.there))
    ∙ ap (λ t. tally_in t.entries f) c.self.view_is

pub returns-in-Some-clause-singles : goal.returns-in-Some-clause-singles
returns-in-Some-clause-singles c v =
    let s = set_singles c.self.inside.known.items c.self.inside.more.entries c.args.face.now c.in-Some.i (c.index.result.now.1 - 1) v c.in-Some.ensures c.self.invariant in
    let a = ap (λ n. single_share v (c.args.face.now, n)) (read_tally c.self.inside.known.items c.self.inside.more.entries c.args.face.now c.in-Some.i c.index.result.now c.index.ensures c.in-Some.ensures) in
    let d = ap (λ t. single_count t.entries v) c.self.view_is in
    omega (arith, s, a, d)

pub returns-in-None-clause-before : goal.returns-in-None-clause-before
returns-in-None-clause-before c = c.count_down.ensures.before ∙ sym (past_tally c.self.inside.known.items c.self.inside.more.entries c.args.face.now c.in-None.ensures) ∙ ap (λ t. tally_in t.entries c.args.face.now) c.self.view_is

pub returns-in-None-clause-tally : goal.returns-in-None-clause-tally
returns-in-None-clause-tally c f =
    let m = more_tally c.self.inside.known.items c.self.inside.more.entries c.count_down.new.counts.entries f c.self.invariant (invariant_of-self-in-None c) in
    let w = ap (λ t. tally_in t.entries f) c.self.view_is in
    omega (arith, m, w, c.count_down.ensures.tally f)

pub returns-in-None-clause-singles : goal.returns-in-None-clause-singles
returns-in-None-clause-singles c v =
    let m = more_singles c.self.inside.known.items c.self.inside.more.entries c.count_down.new.counts.entries v in
    let d = ap (λ t. single_count t.entries v) c.self.view_is in
    omega (arith, m, d, c.count_down.ensures.singles v)
