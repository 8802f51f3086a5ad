use Rattle.std.proofs.Common.{◌≡◌, take, length}
use Rattle.face_table.specs.Tally.{AreSingles}
use Rattle.face_table.proofs.singles.list_singles.Given as goal

abbrev pub invariant-loop-i : goal.invariant-loop-i
invariant-loop-i l = record { len : length l.singles.items ≡ l.points; singles : AreSingles (take l.i l.counts.entries) l.singles.items }
