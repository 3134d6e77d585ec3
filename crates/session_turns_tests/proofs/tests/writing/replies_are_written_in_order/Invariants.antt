use Rattle.session_turns_tests.proofs.tests.writing.replies_are_written_in_order.Given as goal

abbrev pub ghosts-writes : goal.ghosts-writes
ghosts-writes g a = record { name = a.blank.name; parts = a.blank.parts }
