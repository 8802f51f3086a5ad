use Rattle.std.proofs.Common.{◌+◌, ◌∙◌, refl, sym, ap, arith, sum_by}
use Rattle.corner_ranges.specs.Ranges.{corners_in, slot_share}
use Rattle.corner_ranges.proofs.RangeLemmas.{corners_before-0, corners_before-next, corners_before-all}
use Rattle.edge_table.specs.Corner.{corner_pairs}
use Rattle.edge_table.proofs.PairLemmas.{cell_pairs-le}
use Rattle.edge_table.proofs.CornerLemmas.{pairs_are, before_le}
use Rattle.edge_table.proofs.groups.count_cells.Goals as goal

pub count_slots-requires-clause-fits : goal.count_slots-requires-clause-fits
count_slots-requires-clause-fits c a u lt =
    let g = corner_pairs a u in
    let r = c.loop-range.range in
    let cells = c.args.cells.now in
    let slots = ap (sum_by (slot_share g)) c.slots.ensures in
    let filled = c.in_ok-fill.ensures.corners g in
    let same = ap (λ l. sum_by g (corners_in r l)) c.loop-range.invariant.cells in
    let next = corners_before-next g r cells in
    let most = before_le a u (r + 1) cells c.are_all_different.ensures in
    let so_far = c.loop-range.invariant.pairs a u (omega (arith, c.loop-range.invariant.len)) in
    omega (arith, slots, filled, same, next, most, so_far, cell_pairs-le cells a u, c.requires.few_cells)

pub loop-range-init : goal.loop-range-init
loop-range-init c = record {
  cells = c.in_ok-ranges.ensures.cells;
  count = sym c.count-count.ensures;
  seen = c.new-seen.ensures.items;
  rows = c.requires.rows;
  len = refl;
  pairs = λ a u lt. c.requires.none a u ∙ sym (ap (sum_by (corner_pairs a u)) (corners_before-0 c.args.cells.now));
}

pub loop-range-preserved : goal.loop-range-preserved
loop-range-preserved c = record {
  cells = c.fill.ensures.cells ∙ c.loop-range.invariant.cells;
  count = c.fill.ensures.count ∙ c.loop-range.invariant.count;
  seen = c.in_ok-count_slots.ensures.seen;
  rows = c.count_slots.ensures.rows;
  len = c.count_slots.ensures.len ∙ c.loop-range.invariant.len;
  pairs = λ a u lt.
      let g = corner_pairs a u in
      let r = c.loop-range.range in
      let slots = ap (sum_by (slot_share g)) c.slots.ensures in
      let filled = c.in_ok-fill.ensures.corners g in
      let same = ap (λ l. sum_by g (corners_in r l)) c.loop-range.invariant.cells in
      let next = corners_before-next g r c.args.cells.now in
      let so_far = c.loop-range.invariant.pairs a u lt in
      omega (arith, slots, filled, same, next, so_far, c.in_ok-count_slots.ensures.pairs a u (omega (arith, c.loop-range.invariant.len)));
}

pub returns-clause-pairs : goal.returns-clause-pairs
returns-clause-pairs c a u lt =
    let all = corners_before-all c.args.points c.loop-range.range c.args.cells.now c.requires.within (omega (arith, c.in_ok-ranges.ensures.covers, c.count-count.ensures)) in
    c.loop-range.invariant.pairs a u lt ∙ ap (sum_by (corner_pairs a u)) all ∙ pairs_are a u c.args.cells.now c.are_all_different.ensures
