use Rattle.std.proofs.lemmas.Result.{err_from_is_err_and}
use Rattle.vtk_legacy.proofs.AheadLemmas.{passes_on, fails_on}
use Rattle.vtk_legacy.proofs.plain.take_rows.Goals as goal

pub returns-in_err-take_row : goal.returns-in_err-take_row
returns-in_err-take_row c =
    let p = err_from_is_err_and c.from_residual.result c.from_residual.ensures.1 in
    rw (p.1, p.2) (fails_on _ _ _ _ _ _ _ _ c.loop-left.invariant (c.in_err-take_row.ensures c.args.place))

pub returns-then-not-branch : goal.returns-then-not-branch
returns-then-not-branch c =
    let same = rw c.if-not-branch.true at c.in_ok-take_row.ensures c.args.place in
    rw (same.0, same.1) c.loop-left.invariant

pub loop-left-preserved : goal.loop-left-preserved
loop-left-preserved c =
    let more = rw c.if-not-branch.false at c.in_ok-take_row.ensures c.args.place in
    rw c.saturating_sub-space.ensures (passes_on _ _ _ _ _ _ _ _ _ c.loop-left.invariant more)
