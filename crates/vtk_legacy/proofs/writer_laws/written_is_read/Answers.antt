use Rattle.vtk_legacy.proofs.WrittenAgain.{written_again}
use Rattle.vtk_legacy.proofs.writer_laws.written_is_read.Goals as goal

pub returns : goal.returns
returns c = written_again
