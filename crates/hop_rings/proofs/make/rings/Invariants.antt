use Rattle.std.proofs.Common.{◌≡◌, ◌+◌, length}
use Rattle.hop_rings.specs.Rings.{AreRings}
use Rattle.hop_rings.specs.Reached.{AreNear}
use Rattle.hop_rings.proofs.make.rings.Given as goal

abbrev pub invariant-loop-n : goal.invariant-loop-n
invariant-loop-n l = record {
  len : length l.rings.items ≡ l.n + 1;
  rings : AreRings l.fn.step.mesh l.fn.inside l.rings.items;
  near : AreNear l.fn.step.mesh l.fn.inside l.n l.from.items;
}
