-- A run without the events that found no memory.
use Rattle.std.specs.Prelude.{Bool, true, List, [], ◌∷◌, get_or, drop, if◌then◌else◌}
use Rattle.server_table.specs.declared.event.Event.{Event}
use Rattle.server_table.specs.declared.event.Answer.{Answer}
use Rattle.server_table.specs.Shares.{is_made}

module _ {A : Type 0} where
  -- the events that weren't answered so, and their marks
  abbrev pub made_events : List (Event A) → List (Answer A) → List (Event A)
  made_events [] answers = []
  made_events (event ∷ events) [] = []
  made_events (event ∷ events) (said ∷ answers) = if is_made said then event ∷ made_events events answers else made_events events answers

  abbrev pub made_marks : List (Answer A) → List Bool → List Bool
  made_marks [] marks = []
  made_marks (said ∷ answers) marks = if is_made said then get_or marks 0 true ∷ made_marks answers (drop 1 marks) else made_marks answers (drop 1 marks)
