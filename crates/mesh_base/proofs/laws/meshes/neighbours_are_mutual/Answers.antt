use Rattle.mesh_base.proofs.NumberLaws.{neighbours-sym_list}
use Rattle.mesh_base.proofs.laws.meshes.neighbours_are_mutual.Goals as goal

pub returns-clause-listed : goal.returns-clause-listed
returns-clause-listed c mesh v w valid m = neighbours-sym_list mesh v w valid m
