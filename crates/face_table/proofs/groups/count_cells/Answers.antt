use Rattle.std.proofs.Common.{◌+◌, ◌∙◌, sym, ap, arith, sum_by}
use Rattle.corner_ranges.specs.Ranges.{corners_in, slot_share}
use Rattle.corner_ranges.proofs.RangeLemmas.{corners_before-0, corners_before-next, corners_before-all}
use Rattle.face_table.specs.Tally.{tally_in}
use Rattle.face_table.specs.Corner.{corner_share}
use Rattle.face_table.proofs.BuildLemmas.{face_count-le}
use Rattle.face_table.proofs.CornerLemmas.{faces_are, before_le}
use Rattle.face_table.proofs.groups.count_cells.Goals as goal

pub count_slots-requires : goal.count_slots-requires
count_slots-requires c = record {
  seen = c.loop-range.invariant.seen;
  fits = λ f.
      let g = corner_share f in
      let r = c.loop-range.range in
      let cells = c.args.cells.now in
      let slots = ap (sum_by (slot_share g)) c.slots.ensures in
      let filled = c.in_ok-fill.ensures.corners g in
      let same = ap (λ l. sum_by g (corners_in r l)) c.loop-range.invariant.cells in
      let next = corners_before-next g r cells in
      let most = before_le f (r + 1) cells c.are_all_different.ensures in
      let so_far = c.loop-range.invariant.tally f in
      omega (arith, slots, filled, same, next, most, so_far, face_count-le cells f, c.requires.few_cells);
}

pub loop-range-init : goal.loop-range-init
loop-range-init c = record {
  cells = c.in_ok-ranges.ensures.cells;
  count = sym c.count-count.ensures;
  seen = c.new-seen.ensures.items;
  tally = λ f. c.no_counts-counts.ensures f ∙ sym (ap (sum_by (corner_share f)) (corners_before-0 c.args.cells.now));
}

pub loop-range-preserved : goal.loop-range-preserved
loop-range-preserved c = record {
  cells = c.fill.ensures.cells ∙ c.loop-range.invariant.cells;
  count = c.fill.ensures.count ∙ c.loop-range.invariant.count;
  seen = c.in_ok-count_slots.ensures.seen;
  tally = λ f.
      let g = corner_share f in
      let r = c.loop-range.range in
      let slots = ap (sum_by (slot_share g)) c.slots.ensures in
      let filled = c.in_ok-fill.ensures.corners g in
      let same = ap (λ l. sum_by g (corners_in r l)) c.loop-range.invariant.cells in
      let next = corners_before-next g r c.args.cells.now in
      let so_far = c.loop-range.invariant.tally f in
      omega (arith, slots, filled, same, next, so_far, c.in_ok-count_slots.ensures.tally f);
}

pub returns : goal.returns
returns c = record {
  tally = λ f.
      let a = corners_before-all c.args.points c.loop-range.range c.args.cells.now c.requires.within (omega (arith, c.in_ok-ranges.ensures.covers, c.count-count.ensures)) in
      ap (λ l. tally_in l f) c.note_starts.ensures ∙ c.loop-range.invariant.tally f ∙ ap (sum_by (corner_share f)) a ∙ faces_are f c.args.cells.now c.are_all_different.ensures;
}
