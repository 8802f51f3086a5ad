use Rattle.std.proofs.Common.{◌≡◌, refl, ◌-◌, arith}
use Rattle.vtk_legacy.specs.Machine.{taking}
use Rattle.vtk_legacy.proofs.StepLemmas.{moves_by}
use Rattle.vtk_legacy.proofs.cells.cell_point_step.Goals as goal

pub returns : goal.returns
unfolding taking
returns c =
    let n : c.number.result ≡ c.args.got.now.number = c.number.ensures in
    let at : c.saturating_sub-at.result ≡ c.args.row.count - c.args.more - 1 = omega arith in
    let left = rw (c.put.ensures, at) at c.row_left.ensures in
    moves_by _ _ _ _ (λ after. rw (← n) (rw (c.in_ok-point.ensures after) refl)) left
