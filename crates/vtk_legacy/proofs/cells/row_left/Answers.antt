use Rattle.vtk_legacy.proofs.StepLemmas.{moves_by, in_row_none}
use Rattle.vtk_legacy.proofs.cells.row_left.Goals as goal

pub returns-then-count-eq0 : goal.returns-then-count-eq0
returns-then-count-eq0 c =
    rw c.in_ok-push_row.ensures.ok (moves_by _ _ _ _ (λ after. in_row_none c.args.row c.args.count c.args.cells c.args.room c.args.place c.args.got.now after c.if-count-eq0.true) (c.cells_left.ensures _))
