use Rattle.nbd_workers_tests.proofs.tests.holding.gone_while_held.Given as goal

abbrev pub ghosts-used : goal.ghosts-used
ghosts-used g a = record { name = a.blank.name; parts = a.blank.parts }
