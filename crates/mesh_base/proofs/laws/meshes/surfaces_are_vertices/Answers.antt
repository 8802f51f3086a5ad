use Rattle.mesh_base.proofs.NumberLaws.{surface_vertices}
use Rattle.mesh_base.proofs.laws.meshes.surfaces_are_vertices.Goals as goal

pub returns : goal.returns
returns c mesh v m = surface_vertices mesh v m
