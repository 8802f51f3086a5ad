use Rattle.vtk_legacy.specs.Reader.{HasRead}
use Rattle.vtk_legacy.proofs.Start.{from_start}
use Rattle.vtk_legacy.proofs.reader.MeshReader.new.Goals as goal

pub returns-clause-read : goal.returns-clause-read
unfolding HasRead
returns-clause-read c more = rw (c.new.ensures, c.new-2.ensures) (from_start more)
