use Rattle.server_lock_tests.proofs.tests.scripts.crowds_go_as_they_say.Given as goal

abbrev pub ghosts-plays : goal.ghosts-plays
ghosts-plays g a = record { name = a.blank.name; parts = a.blank.parts }
