use Rattle.std.proofs.Common.{◌∙◌}
use Rattle.std.proofs.lemmas.Result.{err_from_is_err_and}
use Rattle.vtk_legacy.proofs.Advance.{closed}
use Rattle.vtk_legacy.proofs.reader.close.Goals as goal

pub returns : goal.returns
returns c = closed _ _ _ _ c.args.tokens _ _ _ c.finish.ensures c.in_ok-run.ensures c.end.ensures ∙ c.in_ok-ending.ensures c.run.new.got

pub returns-in_err-ending : goal.returns-in_err-ending
returns-in_err-ending c =
    let p = err_from_is_err_and c.from_residual-in_err-ending.result c.from_residual-in_err-ending.ensures.1 in
    let e = closed _ _ _ _ c.args.tokens _ _ _ c.finish.ensures c.in_ok-run.ensures c.end.ensures in
    rw (p.1, p.2, e) (c.in_err-ending.ensures c.run.new.got)
