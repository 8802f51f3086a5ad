use Rattle.std.proofs.lemmas.Result.{err_from_is_err_and}
use Rattle.vtk_legacy.proofs.Advance.{version_taken, version_bad, version_long, version_ends, line_text, same_long}
use Rattle.vtk_legacy.proofs.lines.take_version.Goals as goal

pub returns-in_ok-form-in-Line : goal.returns-in_ok-form-in-Line
returns-in_ok-form-in-Line c =
    let h = rw c.in-Line.is at c.line.follows.holds-at-none in
    rw (c.set_form.ensures, c.requires) (version_taken _ _ _ _ _ _ h c.in_ok-form-in-Line.ensures, h.shorter, line_text _ _ _ _ _ h)

pub returns-in_err-form-in-Line : goal.returns-in_err-form-in-Line
returns-in_err-form-in-Line c =
    let h = rw c.in-Line.is at c.line.follows.holds-at-none in
    let p = err_from_is_err_and c.from_residual.result c.from_residual.ensures.1 in
    rw (p.1, p.2, c.requires) (version_bad _ _ _ _ _ _ h c.in_err-form-in-Line.ensures, line_text _ _ _ _ _ h)

pub returns-in-Long : goal.returns-in-Long
returns-in-Long c =
    let h = rw c.in-Long.is at c.line.follows.holds-at-none in
    rw (c.fault.ensures, c.requires) (version_long _ _ _ _ h, same_long _ _ _ _ h)

pub returns-in-End : goal.returns-in-End
returns-in-End c =
    let h = rw c.in-End.is at c.line.follows.holds-at-none in
    rw c.requires (version_ends _ _ _ _ h)
