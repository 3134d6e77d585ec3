use Rattle.session_turns_tests.proofs.tests.entering.go_gives_the_next_session.Given as goal

abbrev pub ghosts-comes_in : goal.ghosts-comes_in
ghosts-comes_in g a = record { name = a.blank.name; parts = a.blank.parts }
