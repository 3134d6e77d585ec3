use Rattle.nbd_workers_tests.proofs.tests.sleeping.workers_sleep.Given as goal

abbrev pub ghosts-used : goal.ghosts-used
ghosts-used g a = record { name = a.blank.name; parts = a.blank.parts }
