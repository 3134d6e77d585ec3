use Rattle.server_lock_tests.proofs.tests.what_is_due_is_told.Given as goal

abbrev pub ghosts-plays : goal.ghosts-plays
ghosts-plays g a = record { name = a.blank.name; parts = a.blank.parts }
