use Rattle.vtk_legacy.specs.declared.stage.Stage.TheVariants as stage
use Rattle.vtk_legacy.specs.Machine.{Passes}
use Rattle.vtk_legacy.proofs.plain.take_numbers.Given as goal

abbrev pub invariant-loop-left : goal.invariant-loop-left
invariant-loop-left l = Passes (stage.Number l.fn.more l.fn.filling) l.fn.got l.fn.tokens (stage.Number l.left l.here) l.got l.tokens

abbrev pub decreases-loop-left : goal.decreases-loop-left
decreases-loop-left l = l.left
