use Rattle.std.proofs.Common.{refl, ◌+◌}
use Rattle.std.proofs.lemmas.Bool.{le-ltb}
use Rattle.vtk_legacy.specs.Machine.{taking}
use Rattle.vtk_legacy.proofs.StepLemmas.{moves_by}
use Rattle.vtk_legacy.proofs.cells.head_step.Goals as goal

pub returns : goal.returns
unfolding taking
returns c =
    let room = le-ltb c.args.room (1 + c.in_ok-count.count) c.if-room-count.false in
    let left = rw c.empty.ensures at c.row_left.ensures in
    moves_by _ _ _ _ (λ after. rw (c.in_ok-count.ensures.agrees after, room) refl) left
