use Rattle.std.proofs.Common.{cond, take, Some, None}
use Rattle.mesh_base.specs.Mesh.{neighbours}
use Rattle.hop_rings.specs.Reached.{IsSpread}
use Rattle.hop_rings.proofs.Options.{is_listed}
use Rattle.hop_rings.proofs.spread.visit.Given as goal

abbrev pub invariant-loop-w : goal.invariant-loop-w
invariant-loop-w l = IsSpread (λ x. cond (is_listed (take l.w-index (neighbours l.fn.step.mesh l.fn.u)) x) (Some l.fn.u) None) l.fn.from l.from l.fn.found.items l.found.items
