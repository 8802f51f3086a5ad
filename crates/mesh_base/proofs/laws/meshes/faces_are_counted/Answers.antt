use Rattle.mesh_base.proofs.FaceLaws.{count_is, count-own}
use Rattle.mesh_base.proofs.laws.meshes.faces_are_counted.Goals as goal

pub returns-clause-same : goal.returns-clause-same
returns-clause-same c cells f different l = count_is cells f different l

pub returns-clause-own : goal.returns-clause-own
returns-clause-own c cells d f m k = count-own cells d f m k
