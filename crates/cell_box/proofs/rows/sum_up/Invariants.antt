use Rattle.std.proofs.Common.{◌≡◌, ℕ, ◌+◌, ◌<◌, ◌≤◌, get_or}
use Rattle.cell_box.specs.Rows.{sum_to}
use Rattle.cell_box.proofs.rows.sum_up.Given as goal

abbrev pub invariant-loop-v : goal.invariant-loop-v
invariant-loop-v l = record {
  total : l.total ≡ sum_to l.fn.starts l.v;
  first : get_or l.starts 0 0 ≡ get_or l.fn.starts 0 0;
  sums : (u : ℕ) → u < l.v → get_or l.starts (u + 1) 0 ≡ sum_to l.fn.starts u;
  rest : (u : ℕ) → l.v < u → get_or l.starts u 0 ≡ get_or l.fn.starts u 0;
}
