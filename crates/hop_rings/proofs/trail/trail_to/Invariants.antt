use Rattle.hop_rings.proofs.Trails.{IsBack}
use Rattle.hop_rings.proofs.trail.trail_to.Given as goal

abbrev pub invariant-loop-n : goal.invariant-loop-n
invariant-loop-n l = IsBack l.rings l.level l.v l.n l.path.items

abbrev pub decreases-loop-n : goal.decreases-loop-n
decreases-loop-n l = l.n
