use Rattle.mesh_base.proofs.AnswerLaws.{distance_zero}
use Rattle.mesh_base.proofs.Distances.{dist2-inside, dist2-least, dist2-most, dist2-reached}
use Rattle.mesh_base.proofs.laws.walks.distances_are_exact.Goals as goal

pub returns-clause-least : goal.returns-clause-least
returns-clause-least c area p q h = dist2-least area p q h

pub returns-clause-reached : goal.returns-clause-reached
returns-clause-reached c area p o = dist2-reached area p o

pub returns-clause-zero : goal.returns-clause-zero
returns-clause-zero c area p = (λ e. distance_zero area p e, λ h. dist2-inside area p h)

pub returns-clause-most : goal.returns-clause-most
returns-clause-most c area p o l h q = dist2-most area p o l h q
