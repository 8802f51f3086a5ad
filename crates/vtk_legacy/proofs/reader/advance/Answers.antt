use Rattle.vtk_legacy.proofs.AheadLemmas.{advances_on}
use Rattle.vtk_legacy.proofs.reader.advance.Goals as goal

pub returns : goal.returns
returns c = advances_on _ _ _ _ _ _ _ _ _ _ c.in_ok-read_on.ensures c.advance_one.ensures
