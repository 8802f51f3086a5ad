use Rattle.std.proofs.Common.{refl}
use Rattle.std.proofs.lemmas.Result.{err_from_is_err_and}
use Rattle.vtk_legacy.specs.Machine.{goes_on, taking}
use Rattle.vtk_legacy.proofs.StepLemmas.{IsFault-then}
use Rattle.vtk_legacy.proofs.steps.step.Goals as goal

pub returns-in-Format : goal.returns-in-Format
unfolding taking
returns-in-Format c = rw c.in-Format.is (c.format_step.ensures c.args.got.now)

pub returns-in-Within : goal.returns-in-Within
unfolding taking
returns-in-Within c = rw c.in-Within.is (c.block_step.ensures c.args.got.now)

pub returns-in-CellSize : goal.returns-in-CellSize
unfolding taking
returns-in-CellSize c = rw c.in-CellSize.is (c.size_step.ensures c.args.got.now)

pub returns-in-NumberCount : goal.returns-in-NumberCount
unfolding taking
returns-in-NumberCount c = rw c.in-NumberCount.is (c.number_count_step.ensures c.args.got.now)

pub returns-in_ok-word_at-in-Grid : goal.returns-in_ok-word_at-in-Grid
unfolding goes_on taking
returns-in_ok-word_at-in-Grid c after = rw (c.in-Grid.is, c.in_ok-word_at-in-Grid.ensures after) refl

pub returns-in_err-word_at-in-Grid : goal.returns-in_err-word_at-in-Grid
unfolding goes_on taking
returns-in_err-word_at-in-Grid c =
    let p = err_from_is_err_and c.from_residual-in_err-word_at-in-Grid.result c.from_residual-in_err-word_at-in-Grid.ensures.1 in
    rw (p.1, p.2, c.in-Grid.is) (λ after. IsFault-then _ _ _ (c.in_err-word_at-in-Grid.ensures after))
