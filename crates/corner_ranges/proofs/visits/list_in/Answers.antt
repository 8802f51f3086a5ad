use Rattle.std.proofs.Common.{◌+◌, ◌&&◌, cond, eqb, sum_by, sym, ap, ◌∙◌, arith}
use Rattle.corner_ranges.specs.Visits.{listed}
use Rattle.corner_ranges.proofs.VisitLemmas.{listed_more}
use Rattle.corner_ranges.proofs.visits.list_in.Goals as goal

pub returns-in_ok-push-clause-listed : goal.returns-in_ok-push-clause-listed
returns-in_ok-push-clause-listed c h r lt =
    let visits = c.args.visits.now.items in
    listed_more h visits c.args.range r c.args.i c.index_mut.result.now c.push.new.self (omega (arith, c.len.ensures)) c.index_mut.ensures.value c.in_ok-push.ensures.items
    ∙ ap (λ t. sum_by h (listed visits r) + cond (t && eqb c.args.range r) (h c.args.i) 0) (sym c.if-wanted.true)
