use Rattle.std.proofs.Common.{◌≡◌, ◌+◌, take}
use Rattle.mesh_base.specs.Mesh.{Face}
use Rattle.face_table.specs.Tally.{tally_in}
use Rattle.face_table.specs.Corner.{seen_of}
use Rattle.face_table.proofs.groups.count_seen.Given as goal

abbrev pub invariant-loop-i : goal.invariant-loop-i
invariant-loop-i l = (f : Face) → tally_in l.counts.entries f ≡ tally_in l.fn.counts.entries f + seen_of (take l.i l.seen.items) f
