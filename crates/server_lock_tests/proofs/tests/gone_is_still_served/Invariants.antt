use Rattle.server_lock_tests.proofs.tests.gone_is_still_served.Given as goal

abbrev pub ghosts-plays : goal.ghosts-plays
ghosts-plays g a = record { name = a.blank.name; parts = a.blank.parts }
