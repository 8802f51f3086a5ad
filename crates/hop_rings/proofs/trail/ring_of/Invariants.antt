use Rattle.std.proofs.Common.{ℕ, ◌<◌}
use Rattle.hop_rings.specs.Rings.{IsInRing}
use Rattle.hop_rings.proofs.trail.ring_of.Given as goal

abbrev pub invariant-loop-n : goal.invariant-loop-n
invariant-loop-n l = (k : ℕ) → k < l.n → IsInRing l.rings k l.v → ⊥
