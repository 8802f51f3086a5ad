use Rattle.vtk_legacy.proofs.WrittenLists.{parts_text, chunks_text, chunks_live}
use Rattle.vtk_legacy.proofs.writer_laws.parts_are_the_text.Goals as goal

pub returns : goal.returns
returns c = record { text = parts_text; chunks = chunks_text; live = chunks_live }
