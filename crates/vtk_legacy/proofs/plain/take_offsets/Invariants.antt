use Rattle.std.proofs.Common.{false}
use Rattle.vtk_legacy.specs.declared.stage.Stage.TheVariants as stage
use Rattle.vtk_legacy.specs.Machine.{Passes}
use Rattle.vtk_legacy.proofs.plain.take_offsets.Given as goal

abbrev pub invariant-loop-left : goal.invariant-loop-left
invariant-loop-left l = Passes (stage.Offset l.fn.more false l.fn.before l.fn.numbers) l.fn.got l.fn.tokens (stage.Offset l.left false l.last l.fn.numbers) l.got l.tokens

abbrev pub decreases-loop-left : goal.decreases-loop-left
decreases-loop-left l = l.left
