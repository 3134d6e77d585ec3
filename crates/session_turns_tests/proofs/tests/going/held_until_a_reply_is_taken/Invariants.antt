use Rattle.session_turns_tests.proofs.tests.going.held_until_a_reply_is_taken.Given as goal

abbrev pub ghosts-is_held : goal.ghosts-is_held
ghosts-is_held g a = record { name = a.blank.name; parts = a.blank.parts }
