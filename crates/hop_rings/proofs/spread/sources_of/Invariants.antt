use Rattle.std.proofs.Common.{◌≡◌, ℕ, ◌<◌, length, get_or, Some}
use Rattle.hop_rings.specs.Reached.{from_at}
use Rattle.hop_rings.proofs.spread.sources_of.Given as goal

abbrev pub invariant-loop-v : goal.invariant-loop-v
invariant-loop-v l = record {
  len : length l.sources.items ≡ l.v-index;
  each : (k : ℕ) → k < l.v-index → from_at l.from (get_or l.vertices k 0) ≡ Some (get_or l.sources.items k 0);
}
