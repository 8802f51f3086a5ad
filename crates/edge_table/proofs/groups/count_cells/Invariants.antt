use Rattle.std.proofs.Common.{◌≡◌, ℕ, ◌<◌, [], sum_by, vec_len}
use Rattle.corner_ranges.specs.Ranges.{corners_before}
use Rattle.edge_table.specs.Pairs.{pair_count}
use Rattle.edge_table.specs.Rows.{shown, AreRows}
use Rattle.edge_table.specs.Corner.{corner_pairs}
use Rattle.edge_table.proofs.groups.count_cells.Given as goal

abbrev pub invariant-loop-range : goal.invariant-loop-range
invariant-loop-range l = record {
  cells : l.ranges.cells ≡ l.cells;
  count : l.ranges.count ≡ l.count;
  seen : l.seen.items ≡ [];
  rows : AreRows (shown l.rows.items);
  len : vec_len l.rows ≡ vec_len l.fn.rows;
  pairs : (a u : ℕ) → a < vec_len l.fn.rows → pair_count (shown l.rows.items) a u ≡ sum_by (corner_pairs a u) (corners_before l.range l.cells);
}
