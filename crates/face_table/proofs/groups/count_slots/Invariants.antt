use Rattle.std.proofs.Common.{◌≡◌, ◌+◌, take, sum_by}
use Rattle.mesh_base.specs.Mesh.{Face}
use Rattle.corner_ranges.specs.Ranges.{slot_share}
use Rattle.face_table.specs.Tally.{tally_in}
use Rattle.face_table.specs.Corner.{corner_share, seen_of}
use Rattle.face_table.proofs.groups.count_slots.Given as goal

abbrev pub invariant-loop-i : goal.invariant-loop-i
invariant-loop-i l = (f : Face) → tally_in l.counts.entries f + seen_of l.seen.items f ≡ tally_in l.fn.counts.entries f + sum_by (slot_share (corner_share f)) (take l.i l.slots)
