use Rattle.std.proofs.lemmas.Result.{err_from_is_err_and}
use Rattle.run_script.proofs.CheckLemmas.{no_waits, items-more, items-stop}
use Rattle.run_script.proofs.check.check_waits.Goals as goal

pub loop-item-init : goal.loop-item-init
loop-item-init c = no_waits _

pub returns-in_err-check_wait : goal.returns-in_err-check_wait
returns-in_err-check_wait c =
    let p = err_from_is_err_and c.from_residual.result c.from_residual.ensures.1 in
    rw (p.1, p.2) (items-stop _ _ _ _ _ c.loop-item-test.true c.item-item.is c.loop-item.invariant c.in_err-check_wait.ensures)

pub loop-item-preserved : goal.loop-item-preserved
loop-item-preserved c = items-more _ _ _ _ c.loop-item-test.true c.item-item.is c.loop-item.invariant c.in_ok-check_wait.ensures
