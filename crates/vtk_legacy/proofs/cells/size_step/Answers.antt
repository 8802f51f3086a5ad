use Rattle.std.proofs.Common.{refl}
use Rattle.vtk_legacy.specs.Machine.{taking}
use Rattle.vtk_legacy.proofs.StepLemmas.{moves_by}
use Rattle.vtk_legacy.proofs.cells.size_step.Goals as goal

pub returns : goal.returns
unfolding taking
returns c got = moves_by _ _ _ got (λ after. rw (c.in_ok-room.ensures.agrees after) refl) (c.cells_left.ensures got)
