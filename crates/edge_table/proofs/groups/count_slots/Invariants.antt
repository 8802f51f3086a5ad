use Rattle.std.proofs.Common.{◌≡◌, ℕ, ◌+◌, ◌<◌, take, sum_by, vec_len}
use Rattle.corner_ranges.specs.Ranges.{slot_share}
use Rattle.edge_table.specs.Pairs.{pair_count}
use Rattle.edge_table.specs.Rows.{shown, AreRows}
use Rattle.edge_table.specs.Corner.{corner_pairs, seen_pairs}
use Rattle.edge_table.proofs.groups.count_slots.Given as goal

abbrev pub invariant-loop-i : goal.invariant-loop-i
invariant-loop-i l = record {
  rows : AreRows (shown l.rows.items);
  len : vec_len l.rows ≡ vec_len l.fn.rows;
  pairs : (a u : ℕ) → a < vec_len l.fn.rows → pair_count (shown l.rows.items) a u + seen_pairs l.seen.items a u ≡ pair_count (shown l.fn.rows.items) a u + sum_by (slot_share (corner_pairs a u)) (take l.i l.slots);
}
