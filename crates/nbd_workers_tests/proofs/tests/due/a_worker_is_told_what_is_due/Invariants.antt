use Rattle.nbd_workers_tests.proofs.tests.due.a_worker_is_told_what_is_due.Given as goal

abbrev pub ghosts-left : goal.ghosts-left
ghosts-left g a = record { name = a.blank.name; parts = a.blank.parts }
