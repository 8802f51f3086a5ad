use Rattle.mesh_base.proofs.AnswerLaws.{answer_increasing, answer_in, answer_complete}
use Rattle.mesh_base.proofs.laws.answers.answers_are_scans.Goals as goal

pub returns-clause-ascending : goal.returns-clause-ascending
returns-clause-ascending c mesh area r vs h = answer_increasing mesh area r vs h.1

pub returns-clause-inside : goal.returns-clause-inside
returns-clause-inside c mesh area r vs h = answer_in mesh area r vs h.1

pub returns-clause-covered : goal.returns-clause-covered
returns-clause-covered c mesh area r vs h cover = answer_complete mesh area r vs h cover
