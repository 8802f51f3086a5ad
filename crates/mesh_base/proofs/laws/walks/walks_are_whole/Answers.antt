use Rattle.std.proofs.Common.{suc, arith}
use Rattle.mesh_base.specs.Walk.{distance}
use Rattle.mesh_base.proofs.JoinedLaws.{walk_whole}
use Rattle.mesh_base.proofs.laws.walks.walks_are_whole.Goals as goal

pub returns : goal.returns
returns c mesh area v = walk_whole mesh area (suc (distance mesh area v)) v (omega arith)
