use Rattle.std.proofs.Common.{◌≡◌, ◌+◌, ◌≤◌, ◌++◌, map, take, length, set, Some, None, vec_len, vec_capacity}
use Rattle.topo.proofs.list.split_list.Given as goal

abbrev pub invariant-loop-cell : goal.invariant-loop-cell
invariant-loop-cell l = (l.cells.items ≡ set l.fn.cells.items l.split None ++ map Some (take l.cell-index l.quarters)) × (vec_len l.cells + length l.quarters ≤ vec_capacity l.cells + l.cell-index)
