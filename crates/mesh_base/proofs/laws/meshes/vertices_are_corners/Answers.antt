use Rattle.std.proofs.Common.{length}
use Rattle.mesh_base.specs.Mesh.{is_vertex}
use Rattle.mesh_base.proofs.NumberLaws.{of_vertices, to_numbers, vertex_point}
use Rattle.mesh_base.proofs.laws.meshes.vertices_are_corners.Goals as goal

pub returns : goal.returns
returns c mesh v valid = (λ m. (of_vertices mesh v m).0, λ h. to_numbers mesh (is_vertex mesh.cells) v h (vertex_point (length mesh.points) mesh.cells v valid.within h))
