use Rattle.std.proofs.lemmas.Result.{err_from_is_err_and}
use Rattle.run_script.proofs.CheckLemmas.{made-none, plans-more, plans-stop}
use Rattle.run_script.proofs.check.take_plans.Goals as goal

pub loop-plan-init : goal.loop-plan-init
loop-plan-init c = λ mesh m. made-none mesh _ m

pub returns-in_err-take_edits : goal.returns-in_err-take_edits
returns-in_err-take_edits c =
    let p = err_from_is_err_and c.from_residual.result c.from_residual.ensures.1 in
    rw (p.1, p.2) (λ mesh m. let made = c.loop-plan.invariant mesh m in plans-stop mesh _ _ _ _ _ c.loop-plan-test.true c.plan-item.is made (rw c.items.ensures at (c.in_err-take_edits.ensures _ made.matches)))

pub loop-plan-preserved : goal.loop-plan-preserved
loop-plan-preserved c = λ mesh m. let made = c.loop-plan.invariant mesh m in plans-more mesh _ _ _ _ _ _ c.loop-plan-test.true c.plan-item.is made (rw c.items.ensures at (c.in_ok-take_edits.ensures _ made.matches))
