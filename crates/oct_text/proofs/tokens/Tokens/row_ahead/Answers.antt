use Rattle.std.proofs.Common.{◌+◌, sym, ◌∙◌, ap, subst, arith, take, drop, length, refl}
use Rattle.std.proofs.lemmas.List.{take_more_set, take_all, length-set}
use Rattle.oct_text.proofs.AheadLemmas.{count_next, count_more}
use Rattle.oct_text.specs.Ahead.{HasCount, TakesCount, TakesCounts}
use Rattle.oct_text.specs.Rest.{behind}
use Rattle.oct_text.proofs.tokens.Tokens.row_ahead.Goals as goal

pub loop-i-init : goal.loop-i-init
loop-i-init c =
    let r = c.args.self.now in
    let head = c.in_ok-head.head in
    let first = subst (λ bs. HasCount bs head.value head.len) c.rest-rest.ensures c.in_ok-head.ensures.exact r.place r.ended in
    record {
      inside = omega (arith, c.in_ok-head.ensures.within, ap length c.rest-rest.ensures);
      counts = (behind head.len r, subst (λ n. TakesCount r n (behind head.len r)) c.if-head-size.false first, refl);
      four = refl;
    }

pub loop-i-preserved : goal.loop-i-preserved
loop-i-preserved c =
    let r = c.args.self.now in
    let len = c.loop-i.len in
    let next = c.in_ok-next.next in
    let mid = count_next r c.behind.result.now len next.value next.len (c.behind.ensures.bytes ∙ ap (drop len) c.rest-rest.ensures) c.in_ok-next.ensures.exact in
    let before = c.loop-i.invariant.counts in
    let more = count_more (take c.loop-i.i c.loop-i.values) next.value before.0 (behind len r) (behind (len + next.len) r) before.2 mid in
    let values = take_more_set c.loop-i.values c.loop-i.i next.value (omega (arith, c.loop-i.invariant.four, c.loop-i-test.true)) in
    record {
      inside = omega (arith, c.in_ok-next.ensures.within, c.behind.ensures.len, c.loop-i.invariant.inside, ap length c.rest-rest.ensures);
      counts = (before.0, before.1, subst (λ ns. TakesCounts before.0 ns (behind (len + next.len) r)) (sym values) more);
      four = length-set c.loop-i.values c.loop-i.i next.value ∙ c.loop-i.invariant.four;
    }

pub behind-requires : goal.behind-requires
behind-requires c = omega (arith, c.loop-i.invariant.inside, ap length c.rest-rest.ensures)

pub returns-clause-exact : goal.returns-clause-exact
returns-clause-exact c =
    let counts = c.loop-i.invariant.counts in
    let all = take_all c.loop-i.i c.loop-i.values (omega (arith, c.loop-i.invariant.four, c.loop-i-test.false)) in
    (counts.0, counts.1, subst (λ ns. TakesCounts counts.0 ns (behind c.loop-i.len c.args.self.now)) all counts.2)
