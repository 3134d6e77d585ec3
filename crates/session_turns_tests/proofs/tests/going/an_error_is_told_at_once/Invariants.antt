use Rattle.session_turns_tests.proofs.tests.going.an_error_is_told_at_once.Given as goal

abbrev pub ghosts-comes_out : goal.ghosts-comes_out
ghosts-comes_out g a = record { name = a.blank.name; parts = a.blank.parts }
