use Rattle.session_turns_tests.proofs.tests.held.what_was_read_is_handed_in.Given as goal

abbrev pub ghosts-comes_out_held : goal.ghosts-comes_out_held
ghosts-comes_out_held g a = record { name = a.blank.name; parts = a.blank.parts }
