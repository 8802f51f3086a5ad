use Rattle.std.proofs.Common.{◌<◌, OnOk, ap, subst, arith}
use Rattle.std.proofs.lemmas.Result.{on_ok_weaker}
use Rattle.corner_ranges.specs.Ranges.{corners_in, AreSlotsOf}
use Rattle.corner_ranges.proofs.VisitLemmas.{whole}
use Rattle.corner_ranges.proofs.ranges.CornerRanges.fill.Goals as goal

pub returns-else-is_err-clause-corners : goal.returns-else-is_err-clause-corners
returns-else-is_err-clause-corners c =
    let t = c.self.inside in
    let filled = c.fill_slots-filled.result in
    let slots = c.fill_slots-filled.new.slots.items in
    let lt : c.args.range < t.count = omega (arith, ap (λ t. t.count) c.self.view_is, c.requires.there) in
    subst (λ cells. OnOk filled (AreSlotsOf (corners_in c.args.range cells) slots)) (ap (λ t. t.cells) c.self.view_is)
    (on_ok_weaker filled
    (whole t.cells.now c.args.range t.count t.visits.items c.index-numbers.result.now c.deref-2.result.now slots c.self.invariant.1 lt c.self.invariant.0 c.index-numbers.ensures c.deref-2.ensures.value)
    c.fill_slots-filled.ensures.shares)
