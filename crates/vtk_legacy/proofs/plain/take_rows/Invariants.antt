use Rattle.vtk_legacy.specs.declared.stage.Stage.TheVariants as stage
use Rattle.vtk_legacy.specs.Machine.{Passes}
use Rattle.vtk_legacy.proofs.plain.take_rows.Given as goal

abbrev pub invariant-loop-left : goal.invariant-loop-left
invariant-loop-left l = Passes (stage.CellHead l.fn.more l.fn.room l.fn.place) l.fn.got l.fn.tokens (stage.CellHead l.left l.space l.fn.place) l.got l.tokens

abbrev pub decreases-loop-left : goal.decreases-loop-left
decreases-loop-left l = l.left
