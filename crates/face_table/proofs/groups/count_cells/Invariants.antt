use Rattle.std.proofs.Common.{◌≡◌, [], sum_by}
use Rattle.mesh_base.specs.Mesh.{Face}
use Rattle.corner_ranges.specs.Ranges.{corners_before}
use Rattle.face_table.specs.Tally.{tally_in}
use Rattle.face_table.specs.Corner.{corner_share}
use Rattle.face_table.proofs.groups.count_cells.Given as goal

abbrev pub invariant-loop-range : goal.invariant-loop-range
invariant-loop-range l = record {
  cells : l.ranges.cells ≡ l.cells;
  count : l.ranges.count ≡ l.count;
  seen : l.seen.items ≡ [];
  tally : (f : Face) → tally_in l.counts.entries f ≡ sum_by (corner_share f) (corners_before l.range l.cells);
}
