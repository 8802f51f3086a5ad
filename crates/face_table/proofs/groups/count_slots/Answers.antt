use Rattle.std.proofs.Common.{◌+◌, ◌<◌, sum_by, ap, sym, arith}
use Rattle.std.proofs.lemmas.List.{take_all}
use Rattle.std.proofs.lemmas.List.Sums.{sum_by_more, sum_by_more_le, sum_by-take-le}
use Rattle.corner_ranges.specs.Ranges.{slot_share}
use Rattle.face_table.specs.Tally.{tally_in}
use Rattle.face_table.specs.Corner.{corner_share, seen_of}
use Rattle.face_table.proofs.Homes.{ok_map}
use Rattle.face_table.proofs.groups.count_slots.Goals.{then-ne+in_ok-count_seen, else-ne}
use Rattle.face_table.proofs.groups.count_slots.Goals as goal

pub count_seen-requires : goal.count_seen-requires
count_seen-requires c = record {
  fits = λ f.
      let g = slot_share (corner_share f) in
      let r = c.index-slots-i.result in
      let m = sum_by_more_le g c.args.slots.now c.loop-i.i r (omega arith) in
      let e = ap g (sym c.index-slots-i.is) in
      omega (arith, m, e, c.in_ok-note_slot.ensures.seen f, c.loop-i.invariant f, c.requires.fits f);
}

pub count_seen-requires-2 : goal.count_seen-requires-2
count_seen-requires-2 c = record {
  fits = λ f.
      let m = sum_by-take-le (slot_share (corner_share f)) c.args.slots.now c.loop-i.i in
      let e = c.loop-i.invariant f in
      let r = c.requires.fits f in
      let t : tally_in c.loop-i.counts.entries f + seen_of c.loop-i.seen.items f < 4294967296 = omega arith in
      t;
}

pub loop-i-preserved : goal.loop-i-preserved
loop-i-preserved c f =
    let g = slot_share (corner_share f) in
    let m = sum_by_more g c.args.slots.now c.loop-i.i c.index-slots-i.result (omega arith) in
    let e = ap g (sym c.index-slots-i.is) in
    elim c.if-ne.branch [
      | then-ne+in_ok-count_seen w ↦ (
          let a = ap (λ t. tally_in t.entries f) w.counts-is in
          let b = ap (λ v. seen_of v.items f) w.seen-is in
          let d = ap (λ l. seen_of l f) w.in_ok-count_seen.ensures.seen in
          omega (arith, m, e, a, b, d, w.in_ok-count_seen.ensures.tally f, c.in_ok-note_slot.ensures.seen f, c.loop-i.invariant f))
      | else-ne w ↦ (
          let a = ap (λ t. tally_in t.entries f) w.counts-is in
          let b = ap (λ v. seen_of v.items f) w.seen-is in
          omega (arith, m, e, a, b, c.in_ok-note_slot.ensures.seen f, c.loop-i.invariant f))
    ]

pub returns-clause-tally : goal.returns-clause-tally
returns-clause-tally c =
    ok_map c.count_seen-2.result (λ p f.
    let t = ap (sum_by (slot_share (corner_share f))) (take_all c.loop-i.i c.args.slots.now (omega arith)) in
    omega (arith, t, p f, c.loop-i.invariant f)) c.count_seen-2.ensures.tally
