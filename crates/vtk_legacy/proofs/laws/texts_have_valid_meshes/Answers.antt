use Rattle.vtk_legacy.proofs.MeshLemmas.{accepted-mesh}
use Rattle.vtk_legacy.proofs.laws.texts_have_valid_meshes.Goals as goal

pub returns : goal.returns
returns c = accepted-mesh
