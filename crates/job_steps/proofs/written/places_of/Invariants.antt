use Rattle.job_steps.proofs.written.places_of.Given as goal

abbrev pub ghosts-read_places : goal.ghosts-read_places
ghosts-read_places a = record { name = a.blank.name; parts = a.blank.parts }
