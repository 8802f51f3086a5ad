use Rattle.std.proofs.Common.{refl, ◌∙◌, ap}
use Rattle.mesh_base.specs.Answer.{route, answer_by}
use Rattle.mesh_base.proofs.JoinedLaws.{answer_is, one_answer}
use Rattle.mesh_base.proofs.laws.answers.answers_are_computed.Goals as goal

pub returns-clause-is_one : goal.returns-clause-is_one
returns-clause-is_one c mesh area = (refl, answer_is mesh area (route mesh area))

pub returns-clause-only : goal.returns-clause-only
returns-clause-only c mesh area r vs h = one_answer mesh area r vs h.1 ∙ ap (answer_by mesh area) h.0
