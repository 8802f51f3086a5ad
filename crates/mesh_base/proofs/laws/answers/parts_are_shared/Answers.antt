use Rattle.mesh_base.proofs.PartLaws.{part_is, same_part, parts_apart}
use Rattle.mesh_base.proofs.laws.answers.parts_are_shared.Goals as goal

pub returns-clause-computed : goal.returns-clause-computed
returns-clause-computed c mesh area v inside = part_is mesh area v inside

pub returns-clause-same : goal.returns-clause-same
returns-clause-same c mesh area v w vs ws a b m = same_part mesh area v w vs ws a b (a.only w m)

pub returns-clause-apart : goal.returns-clause-apart
returns-clause-apart c mesh area v w vs ws a b = parts_apart mesh area v w vs ws a b
