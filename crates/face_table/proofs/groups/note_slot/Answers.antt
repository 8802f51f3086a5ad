use Rattle.std.proofs.Common.{ℕ, List, get_or, ap, arith}
use Rattle.corner_ranges.specs.Ranges.{slot_share}
use Rattle.face_table.specs.Corner.{share_at, corner_share}
use Rattle.face_table.proofs.groups.note_slot.Goals as goal

pub returns-in_ok-note_at : goal.returns-in_ok-note_at
returns-in_ok-note_at c = record {
  seen = λ f.
      let e = ap (λ (xs : List ℕ). share_at (get_or xs 0 0) (get_or xs 1 0) (get_or xs 2 0) (get_or xs 3 0) f) c.numbers.ensures.numbers in
      let s = ap (slot_share (corner_share f)) c.in-Some.is in
      omega (arith, c.in_ok-note_at.ensures.seen f, e, s);
}
