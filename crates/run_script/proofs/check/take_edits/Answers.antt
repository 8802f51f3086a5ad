use Rattle.std.proofs.lemmas.Result.{err_from_is_err_and}
use Rattle.run_script.proofs.CheckLemmas.{made-none, edits-more, edits-stop}
use Rattle.run_script.proofs.check.take_edits.Goals as goal

pub loop-edit-init : goal.loop-edit-init
loop-edit-init c = λ mesh m. made-none mesh _ m

pub returns-in_err-take : goal.returns-in_err-take
returns-in_err-take c =
    let p = err_from_is_err_and c.from_residual.result c.from_residual.ensures.1 in
    rw (p.1, p.2) (λ mesh m. let made = c.loop-edit.invariant mesh m in edits-stop mesh _ _ _ _ _ c.loop-edit-test.true c.edit-item.is made (c.in_err-take.ensures _ made.matches))

pub loop-edit-preserved : goal.loop-edit-preserved
loop-edit-preserved c = λ mesh m. let made = c.loop-edit.invariant mesh m in edits-more mesh _ _ _ _ _ _ c.loop-edit-test.true c.edit-item.is made (c.in_ok-take.ensures _ made.matches)
