use Rattle.std.proofs.Common.{◌≡◌, ◌<◌, ◌+◌, ◌∙◌, List, ℕ, take, drop, length, ap, sym, refl, arith}
use Rattle.std.proofs.lemmas.List.{drop-drop, length-take}
use Rattle.oct_text.specs.Line.{without_cr}
use Rattle.oct_text.specs.Rest.{Rest, behind}
use Rattle.oct_text.proofs.LineLemmas.{known_seen, searched, far_long, waits_for_line, has_no_more, long_line, takes_line}
use Rattle.oct_text.proofs.tokens.Tokens.line.Goals as goal

pub line_end-len-requires : goal.line_end-len-requires
line_end-len-requires c =
    known_seen c.self.inside.unbroken c.seen_len.result c.min.result c.rest-rest.result.now (drop c.self.inside.at c.self.inside.kept.items) c.rest-rest.ensures c.self.invariant.no_lf c.min.ensures

pub returns-then-saturating_sub-ge2 : goal.returns-then-saturating_sub-ge2
returns-then-saturating_sub-ge2 c =
    let b = c.rest-rest.ensures ∙ ap (λ (r : Rest). r.bytes) c.self.view_is in
    let s = searched c.args.most c.rest-rest.result.now c.args.self.now.bytes c.line_end-len.result c.seen_len.result b c.line_end-len.ensures.exact c.seen_len.ensures in
    let none : c.line_end-len.result ≡ c.seen_len.result = omega (arith, length-take c.seen_len.result c.rest-rest.result.now) in
    ((refl, (λ _. tt), far_long c.args.most c.args.self.now c.line_end-len.result c.seen_len.result c.self.inside.place _ s none (omega (arith, ap length b, c.saturating_sub.ensures, c.if-saturating_sub-ge2.true)) (ap (λ (r : Rest). r.place) c.self.view_is) c.self.view_is), record { after = tt })

pub returns-then-self : goal.returns-then-self
returns-then-self c =
    let b = c.rest-rest.ensures ∙ ap (λ (r : Rest). r.bytes) c.self.view_is in
    let s = searched c.args.most c.rest-rest.result.now c.args.self.now.bytes c.line_end-len.result c.seen_len.result b c.line_end-len.ensures.exact c.seen_len.ensures in
    let none : c.line_end-len.result ≡ c.seen_len.result = omega (arith, length-take c.seen_len.result c.rest-rest.result.now) in
    let place : c.self.inside.place + length c.rest-rest.result.now ≡ c.args.self.now.place + length c.args.self.now.bytes = omega (arith, ap length b, ap (λ (r : Rest). r.place) c.self.view_is) in
    ((refl, (λ _. tt), has_no_more c.args.most c.args.self.now c.line_end-len.result c.seen_len.result _ _ s none (omega (arith, ap length b, c.saturating_sub.ensures, c.if-saturating_sub-ge2.false)) (sym (ap (λ (r : Rest). r.ended) c.self.view_is) ∙ c.if-self.true) place c.self.view_is), record { after = tt })

pub returns-then-len-front : goal.returns-then-len-front
returns-then-len-front c =
    let b = c.rest-rest.ensures ∙ ap (λ (r : Rest). r.bytes) c.self.view_is in
    let s = searched c.args.most c.rest-rest.result.now c.args.self.now.bytes c.line_end-len.result c.seen_len.result b c.line_end-len.ensures.exact c.seen_len.ensures in
    let none : c.line_end-len.result ≡ c.seen_len.result = omega (arith, length-take c.seen_len.result c.rest-rest.result.now) in
    ((refl, (λ _. tt), waits_for_line c.args.most c.args.self.now c.line_end-len.result c.seen_len.result _ s none (omega (arith, ap length b, c.saturating_sub.ensures, c.if-saturating_sub-ge2.false)) (sym (ap (λ (r : Rest). r.ended) c.self.view_is) ∙ c.if-self.false) c.self.view_is), record { after = tt })

pub returns-then-chomped-most : goal.returns-then-chomped-most
returns-then-chomped-most c =
    let b = c.rest-rest.ensures ∙ ap (λ (r : Rest). r.bytes) c.self.view_is in
    let s = searched c.args.most c.rest-rest.result.now c.args.self.now.bytes c.line_end-len.result c.seen_len.result b c.line_end-len.ensures.exact c.seen_len.ensures in
    let there : c.line_end-len.result < c.seen_len.result = omega (arith, length-take c.seen_len.result c.rest-rest.result.now, c.line_end-len.ensures.within) in
    let much = rw (c.chomped.ensures, b) at c.if-chomped-most.true in
    ((refl, (λ _. tt), long_line c.args.most c.args.self.now c.line_end-len.result c.seen_len.result _ _ s there much (ap (λ (r : Rest). r.place) c.self.view_is) c.self.view_is), record { after = tt })

pub returns : goal.returns
returns c =
    let b = c.rest-rest.ensures ∙ ap (λ (r : Rest). r.bytes) c.self.view_is in
    let s = searched c.args.most c.rest-rest.result.now c.args.self.now.bytes c.line_end-len.result c.seen_len.result b c.line_end-len.ensures.exact c.seen_len.ensures in
    let there : c.line_end-len.result < c.seen_len.result = omega (arith, length-take c.seen_len.result c.rest-rest.result.now, c.line_end-len.ensures.within) in
    let few = rw (c.chomped.ensures, b) at c.if-chomped-most.false in
    let text-is = c.chomped-2.ensures ∙ ap without_cr (c.part.ensures ∙ ap (take c.line_end-len.result) (ap (λ (r : Rest). r.bytes) c.self.view_is)) in
    let left : Rest = record { place = c.self.inside.place + (c.line_end-len.result + 1); bytes = drop (c.self.inside.at + (c.line_end-len.result + 1)) c.self.inside.kept.items; ended = c.self.inside.ended } in
    let left-is : left ≡ behind (c.line_end-len.result + 1) c.args.self.now =
    ap (λ (bytes : List ℕ). record { place = c.self.inside.place + (c.line_end-len.result + 1); bytes = bytes; ended = c.self.inside.ended }) (sym (drop-drop (c.line_end-len.result + 1) c.self.inside.at c.self.inside.kept.items))
    ∙ ap (behind (c.line_end-len.result + 1)) c.self.view_is in
    ((refl, (λ _. tt), takes_line c.args.most c.args.self.now c.line_end-len.result c.seen_len.result _ _ left s there few (ap (λ (r : Rest). r.place) c.self.view_is) text-is left-is), record { after = tt })
