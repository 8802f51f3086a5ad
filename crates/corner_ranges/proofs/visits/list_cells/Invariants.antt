use Rattle.std.proofs.Common.{◌≡◌, ℕ, ◌<◌, take, sum_by, vec_len}
use Rattle.mesh_base.specs.Mesh.{Corners}
use Rattle.corner_ranges.specs.Ranges.{corners_in}
use Rattle.corner_ranges.specs.Visits.{listed, visit_share}
use Rattle.corner_ranges.proofs.visits.list_cells.Given as goal

abbrev pub invariant-loop-i : goal.invariant-loop-i
invariant-loop-i l = (vec_len l.visits ≡ l.count)
    × ((r : ℕ) (g : Corners → ℕ) → r < l.count → sum_by (visit_share g r l.cells) (listed l.visits.items r) ≡ sum_by g (corners_in r (take l.i l.cells)))
