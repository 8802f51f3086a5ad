use Rattle.std.proofs.Common.{}
use Rattle.mesh_base.specs.Mesh.{corners_of}
use Rattle.sample_meshes.proofs.ListedLaws.{row_cell}
use Rattle.sample_meshes.proofs.listed.cell_of.Goals as goal

pub returns : goal.returns
returns c = row_cell (corners_of c.args.row.now) c.new.result c.new.ensures
