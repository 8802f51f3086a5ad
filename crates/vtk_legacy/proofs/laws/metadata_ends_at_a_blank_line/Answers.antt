use Rattle.vtk_legacy.proofs.BlankLines.{part-ends}
use Rattle.vtk_legacy.proofs.laws.metadata_ends_at_a_blank_line.Goals as goal

pub returns : goal.returns
returns c = part-ends
