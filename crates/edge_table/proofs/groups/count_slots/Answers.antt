use Rattle.std.proofs.Common.{◌+◌, ◌<◌, ap, sym, arith, sum_by}
use Rattle.std.proofs.lemmas.Result.{on_ok_weaker}
use Rattle.std.proofs.lemmas.List.{take_all}
use Rattle.std.proofs.lemmas.List.Sums.{sum_by_more_le, sum_by-take-le}
use Rattle.corner_ranges.specs.Ranges.{slot_share}
use Rattle.edge_table.specs.Pairs.{pair_count}
use Rattle.edge_table.specs.Rows.{shown}
use Rattle.edge_table.specs.Corner.{corner_pairs, seen_pairs}
use Rattle.edge_table.proofs.groups.count_slots.Goals as goal

pub count_seen-requires-clause-fits : goal.count_seen-requires-clause-fits
count_seen-requires-clause-fits c a u lt =
    let g = slot_share (corner_pairs a u) in
    let r = c.index-slots-i.result in
    let m = sum_by_more_le g c.args.slots.now c.loop-i.i r (omega arith) in
    let e = ap g (sym c.index-slots-i.is) in
    omega (arith, m, e, c.in_ok-note_slot.ensures.seen a u, c.loop-i.invariant.pairs a u (omega (arith, c.loop-i.invariant.len)), c.requires.fits a u (omega (arith, c.loop-i.invariant.len)))

pub count_seen-requires-2-clause-fits : goal.count_seen-requires-2-clause-fits
count_seen-requires-2-clause-fits c a u lt =
    let m = sum_by-take-le (slot_share (corner_pairs a u)) c.args.slots.now c.loop-i.i in
    let e = c.loop-i.invariant.pairs a u (omega (arith, c.loop-i.invariant.len)) in
    let r = c.requires.fits a u (omega (arith, c.loop-i.invariant.len)) in
    let t : pair_count (shown c.loop-i.rows.items) a u + seen_pairs c.loop-i.seen.items a u < 4294967296 = omega arith in
    t

pub returns-clause-pairs : goal.returns-clause-pairs
returns-clause-pairs c =
    on_ok_weaker c.count_seen-2.result
    (λ h a u lt.
    let all = ap (sum_by (slot_share (corner_pairs a u))) (take_all c.loop-i.i c.args.slots.now (omega arith)) in
    omega (arith, all, c.loop-i.invariant.pairs a u lt, h a u (omega (arith, c.loop-i.invariant.len))))
    c.count_seen-2.ensures.pairs
