use Rattle.std.proofs.Common.{◌≡◌, ℕ, take, sum_by}
use Rattle.mesh_base.specs.Mesh.{Corners}
use Rattle.corner_ranges.specs.Ranges.{slot_share}
use Rattle.corner_ranges.specs.Visits.{visit_share}
use Rattle.corner_ranges.proofs.slots.fill_slots.Given as goal

abbrev pub invariant-loop-i : goal.invariant-loop-i
invariant-loop-i l = (g : Corners → ℕ) → sum_by (slot_share g) l.slots.items ≡ sum_by (visit_share g l.range l.cells) (take l.i-index l.numbers)
