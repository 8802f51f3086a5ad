use Rattle.std.proofs.Common.{◌≡◌, ◌+◌, ◌++◌, IfOk, cond, ap, sym, subst, ◌∙◌, arith}
use Rattle.mesh_base.specs.Mesh.{face_eq}
use Rattle.face_table.specs.Tally.{tally_in, single_share, single_count}
use Rattle.face_table.proofs.Sums.{tally_more}
use Rattle.face_table.proofs.Homes.{homes_set, homes_more, set_tally, set_singles, read_tally, past_tally, more_tally, more_singles, ok_map}
use Rattle.face_table.proofs.face_counts.FaceCounts.count_up.Goals as goal

pub overflow_add-before : goal.overflow_add-before
overflow_add-before c = omega (arith, read_tally c.self.inside.known.items c.self.inside.more.entries c.args.face c.in-Some.i c.index.result.now c.index.ensures c.in-Some.ensures, ap (λ t. tally_in t.entries c.args.face) c.self.view_is, c.requires.fits)

pub invariant_of-self : goal.invariant_of-self
invariant_of-self c = homes_set c.self.inside.known.items c.self.inside.more.entries c.args.face c.in-Some.i (c.index.result.now.1 + 1) c.in-Some.ensures c.self.invariant

pub count_up-requires : goal.count_up-requires
count_up-requires c = record { fits = omega (arith, past_tally c.self.inside.known.items c.self.inside.more.entries c.args.face c.in-None.ensures, ap (λ t. tally_in t.entries c.args.face) c.self.view_is, c.requires.fits) }

pub invariant_of-self-in-None : goal.invariant_of-self-in-None
invariant_of-self-in-None c = homes_more c.self.inside.known.items c.self.inside.more.entries c.count_up.new.counts.entries c.args.face c.in-None.ensures c.count_up.ensures.others c.self.invariant

pub returns-in-Some-clause-before : goal.returns-in-Some-clause-before
returns-in-Some-clause-before c = sym (read_tally c.self.inside.known.items c.self.inside.more.entries c.args.face c.in-Some.i c.index.result.now c.index.ensures c.in-Some.ensures) ∙ ap (λ t. tally_in t.entries c.args.face) c.self.view_is

pub returns-in-Some-clause-tally : goal.returns-in-Some-clause-tally
returns-in-Some-clause-tally c f =
    let all = c.self.inside.known.items ++ c.self.inside.more.entries in
    set_tally c.self.inside.known.items c.self.inside.more.entries c.args.face f c.in-Some.i (c.index.result.now.1 + 1) c.in-Some.ensures c.self.invariant
    ∙ ap (λ n. cond (face_eq c.args.face f) (n + 1) (tally_in all f)) (sym (read_tally c.self.inside.known.items c.self.inside.more.entries c.args.face c.in-Some.i c.index.result.now c.index.ensures c.in-Some.ensures)) ∙ tally_more all c.args.face f
    ∙ ap (λ t. tally_in t.entries f + cond (face_eq c.args.face f) 1 0) c.self.view_is

pub returns-in-Some-clause-singles : goal.returns-in-Some-clause-singles
returns-in-Some-clause-singles c v =
    let t = ap (λ t. tally_in t.entries c.args.face) c.self.view_is in
    let s = set_singles c.self.inside.known.items c.self.inside.more.entries c.args.face c.in-Some.i (c.index.result.now.1 + 1) v c.in-Some.ensures c.self.invariant in
    let a = ap (λ n. single_share v (c.args.face, n)) t in
    let b = ap (λ n. single_share v (c.args.face, n + 1)) (sym (read_tally c.self.inside.known.items c.self.inside.more.entries c.args.face c.in-Some.i c.index.result.now c.index.ensures c.in-Some.ensures) ∙ t) in
    let d = ap (λ t. single_count t.entries v) c.self.view_is in
    omega (arith, s, a, b, d)

pub returns-in-None-clause-before : goal.returns-in-None-clause-before
returns-in-None-clause-before c = subst (λ m. IfOk c.count_up.result (λ n. n ≡ m)) (sym (past_tally c.self.inside.known.items c.self.inside.more.entries c.args.face c.in-None.ensures) ∙ ap (λ t. tally_in t.entries c.args.face) c.self.view_is) c.count_up.ensures.before

pub returns-in-None-clause-tally : goal.returns-in-None-clause-tally
returns-in-None-clause-tally c =
    ok_map c.count_up.result (λ p f.
    let m = more_tally c.self.inside.known.items c.self.inside.more.entries c.count_up.new.counts.entries f c.self.invariant (invariant_of-self-in-None c) in
    let w = ap (λ t. tally_in t.entries f) c.self.view_is in
    omega (arith, m, w, p f)) c.count_up.ensures.tally

pub returns-in-None-clause-singles : goal.returns-in-None-clause-singles
returns-in-None-clause-singles c =
    let t = sym (past_tally c.self.inside.known.items c.self.inside.more.entries c.args.face c.in-None.ensures) ∙ ap (λ t. tally_in t.entries c.args.face) c.self.view_is in
    ok_map c.count_up.result (λ p v.
    let m = more_singles c.self.inside.known.items c.self.inside.more.entries c.count_up.new.counts.entries v in
    let a = ap (λ n. single_share v (c.args.face, n)) t in
    let b = ap (λ n. single_share v (c.args.face, n + 1)) t in
    let d = ap (λ t. single_count t.entries v) c.self.view_is in
    omega (arith, m, a, b, d, p v)) c.count_up.ensures.singles
