use Rattle.std.proofs.Common.{[], take}
use Rattle.hop_rings.specs.Reached.{IsSpread, first_near}
use Rattle.hop_rings.proofs.spread.visit_all.Given as goal

abbrev pub invariant-loop-u : goal.invariant-loop-u
invariant-loop-u l = IsSpread (first_near l.fn.step.mesh (take l.u-index l.ring)) l.fn.from l.from [] l.found.items
