use Rattle.mesh_base.proofs.WalkLaws.{falls, once}
use Rattle.mesh_base.proofs.laws.walks.walks_come_nearer.Goals as goal

pub returns-clause-falls : goal.returns-clause-falls
returns-clause-falls c mesh area v i j l lt = falls mesh area v i j l lt

pub returns-clause-once : goal.returns-clause-once
returns-clause-once c mesh area v i j a b e = once mesh area v i j a b e
