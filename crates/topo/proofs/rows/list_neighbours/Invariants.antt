use Rattle.std.proofs.Common.{◌≡◌, ℕ, ◌+◌, ◌<◌, length, get_or}
use Rattle.topo.specs.Tables.{IsRowAt}
use Rattle.topo.specs.RowChunks.{row_of}
use Rattle.topo.proofs.rows.list_neighbours.Given as goal

abbrev pub invariant-loop-j : goal.invariant-loop-j
invariant-loop-j l =
    (length l.starts.items ≡ l.j + 1)
    × (get_or l.starts.items l.j 0 ≡ length l.near.items)
    × ((i : ℕ) → i < l.j → IsRowAt l.starts.items l.near.items i (row_of l.tables (l.first + i)))
