use Rattle.server_lock_tests.proofs.tests.scripts.scripts_go_under_the_lock.Given as goal

abbrev pub ghosts-plays : goal.ghosts-plays
ghosts-plays g a = record { name = a.blank.name; parts = a.blank.parts }
