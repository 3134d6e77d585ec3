use Rattle.nbd_workers_tests.proofs.tests.overlapping.workers_overlap.Given as goal

abbrev pub ghosts-used : goal.ghosts-used
ghosts-used g a = record { name = a.blank.name; parts = a.blank.parts }
