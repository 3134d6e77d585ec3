use Rattle.nbd_workers_tests.proofs.tests.flooding.a_flood_of_another_export.Given as goal

abbrev pub ghosts-used : goal.ghosts-used
ghosts-used g a = record { name = a.blank.name; parts = a.blank.parts }
