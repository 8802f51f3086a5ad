use Rattle.box_query.proofs.tests.crawls_at_the_last_rounds.Given as goal

abbrev pub ghosts-scanned_and_crawled : goal.ghosts-scanned_and_crawled
ghosts-scanned_and_crawled g a = record { name = a.blank.name; parts = a.blank.parts }
