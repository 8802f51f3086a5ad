use Rattle.std.proofs.lemmas.Result.{err_from_is_err_and}
use Rattle.run_script.proofs.CheckLemmas.{no_waits, sessions-more, sessions-stop}
use Rattle.run_script.proofs.check.check_sessions.Goals as goal

pub loop-items-init : goal.loop-items-init
loop-items-init c = no_waits _

pub returns-in_err-check_waits : goal.returns-in_err-check_waits
returns-in_err-check_waits c =
    let p = err_from_is_err_and c.from_residual.result c.from_residual.ensures.1 in
    rw (p.1, p.2) (sessions-stop _ _ _ _ _ c.loop-items-test.true c.items-item.is c.loop-items.invariant (rw c.items.ensures at c.in_err-check_waits.ensures))

pub loop-items-preserved : goal.loop-items-preserved
loop-items-preserved c = sessions-more _ _ _ _ c.loop-items-test.true c.items-item.is c.loop-items.invariant (rw c.items.ensures at c.in_ok-check_waits.ensures)
