use Rattle.std.proofs.Common.{◌≡◌, ℕ, ◌<◌, cond, length, take, Some, None}
use Rattle.hop_rings.specs.Reached.{from_at}
use Rattle.hop_rings.proofs.Options.{is_listed}
use Rattle.hop_rings.proofs.make.begin.Given as goal

abbrev pub invariant-loop-v : goal.invariant-loop-v
invariant-loop-v l = record {
  len : length l.from.items ≡ length l.fn.step.mesh.points;
  each : (w : ℕ) → w < length l.fn.step.mesh.points → from_at l.from.items w ≡ cond (is_listed (take l.v-index l.inside) w) (Some w) None;
}
