use Rattle.session_turns_tests.proofs.tests.held.replies_are_taken_in_a_row.Given as goal

abbrev pub ghosts-takes_in_a_row : goal.ghosts-takes_in_a_row
ghosts-takes_in_a_row g a = record { name = a.blank.name; parts = a.blank.parts }
