use Rattle.std.proofs.lemmas.Result.{err_from_is_err_and}
use Rattle.vtk_legacy.proofs.Advance.{took, failed, waits, is_at_end}
use Rattle.vtk_legacy.proofs.reader.take_token.Goals as goal

pub returns-in_ok-stage-in-Token : goal.returns-in_ok-stage-in-Token
returns-in_ok-stage-in-Token c =
    let takes = rw c.in-Token.is at c.next.follows.holds-at-none in
    (took _ _ _ _ _ _ _ c.requires takes c.in_ok-stage-in-Token.ensures, takes.shorter, record { ended = takes.ended; end = takes.end })

pub returns-in_err-stage-in-Token : goal.returns-in_err-stage-in-Token
returns-in_err-stage-in-Token c =
    let takes = rw c.in-Token.is at c.next.follows.holds-at-none in
    let p = err_from_is_err_and c.from_residual.result c.from_residual.ensures.1 in
    rw (p.1, p.2) (failed _ _ _ _ _ _ c.requires takes c.in_err-stage-in-Token.ensures, record { ended = takes.ended; end = takes.end })

pub returns-in-More : goal.returns-in-More
returns-in-More c = waits _ _ _ _ c.requires (rw c.in-More.is at c.next.follows.holds-at-none)

pub returns-in-End : goal.returns-in-End
returns-in-End c = is_at_end _ _ _ _ _ c.requires (rw c.in-End.is at c.next.follows.holds-at-none)
