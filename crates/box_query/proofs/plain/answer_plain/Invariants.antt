use Rattle.box_query.proofs.plain.answer_plain.Given as goal

abbrev pub ghosts-answer_fresh : goal.ghosts-answer_fresh
ghosts-answer_fresh a = record { name = a.blank.name; parts = a.blank.parts }
