use Rattle.vtk_legacy.proofs.WrittenAgain.{whole_mesh, same_text}
use Rattle.vtk_legacy.proofs.writer_laws.written_meshes_are_whole.Goals as goal

pub returns : goal.returns
returns c = record { mesh = whole_mesh; text = same_text }
