use Rattle.std.proofs.Common.{◌≡◌, ℕ, [], vec_len}
use Rattle.corner_ranges.specs.Visits.{listed}
use Rattle.corner_ranges.proofs.visits.empty_lists.Given as goal

abbrev pub invariant-loop-range : goal.invariant-loop-range
invariant-loop-range l = (vec_len l.visits ≡ l._range) × ((r : ℕ) → listed l.visits.items r ≡ [])
