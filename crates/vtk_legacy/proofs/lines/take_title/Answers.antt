use Rattle.vtk_legacy.proofs.Advance.{title_taken, title_long, title_ends, line_text, same_long}
use Rattle.vtk_legacy.proofs.lines.take_title.Goals as goal

pub returns-in-Line : goal.returns-in-Line
returns-in-Line c got =
    let h = rw c.in-Line.is at c.line.follows.holds-at-none in
    rw c.requires (title_taken _ _ _ _ _ h, h.shorter, line_text _ _ _ _ _ h)

pub returns-in-Long : goal.returns-in-Long
returns-in-Long c got =
    let h = rw c.in-Long.is at c.line.follows.holds-at-none in
    rw (c.fault.ensures, c.requires) (title_long _ _ _ _ h, same_long _ _ _ _ h)

pub returns-in-End : goal.returns-in-End
returns-in-End c got =
    let h = rw c.in-End.is at c.line.follows.holds-at-none in
    rw c.requires (title_ends _ _ _ _ h)
