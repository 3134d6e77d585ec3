use Rattle.session_turns_tests.proofs.tests.going.gone_while_a_request_is_held.Given as goal

abbrev pub ghosts-comes_out : goal.ghosts-comes_out
ghosts-comes_out g a = record { name = a.blank.name; parts = a.blank.parts }
