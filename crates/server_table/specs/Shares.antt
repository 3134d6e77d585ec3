-- What of a run is one export's own, by the events and their answers alone.
use Rattle.std.specs.Prelude.{ℕ, Bool, true, false, ◌&&◌, ◌==◌, if◌then◌else◌, List, [], ◌∷◌, ◌++◌, map, Option, Some, None, option_to_list}
use Rattle.server_table.specs.declared.event.Event.{Event}
use Rattle.server_table.specs.declared.event.Event.TheVariants.{Attach, Arrive, Dispatch, Perform, Take, Leave, Gone, Retune}
use Rattle.server_table.specs.declared.event.Answer.{Answer}
use Rattle.server_table.specs.declared.event.Answer.TheVariants.{Session, Accepted, Answered, Picked, Nothing, Performed, Reply, Empty, End, Left, Dropped, NoExport, NotOpen, Worn, Full, Hold, NotOut, Retuned, Waiting, NoMemory}
use Rattle.lone_export.specs.declared.step.Step.{Step}
use Rattle.lone_export.specs.declared.step.Step.TheVariants as step
use Rattle.lone_export.specs.declared.step.StepAnswer.{StepAnswer}
use Rattle.lone_export.specs.declared.step.StepAnswer.TheVariants as alone
use Rattle.nbd_base.specs.Words.{when_some}

module _ {A : Type 0} where
  -- the answers that an export alone gives too, a choice as the number that was picked
  abbrev pub as_alone : Answer A → Option (StepAnswer A)
  as_alone (Session n) = Some (alone.Session n)
  as_alone (Accepted n tag) = Some (alone.Accepted n tag)
  as_alone (Answered error) = Some (alone.Answered error)
  as_alone (Picked e n phase) = Some (alone.Picked n)
  as_alone Nothing = Some alone.Nothing
  as_alone (Performed memory) = Some (alone.Performed memory)
  as_alone (Reply reply) = Some (alone.Reply reply)
  as_alone Empty = Some alone.Empty
  as_alone End = Some alone.End
  as_alone Left = Some alone.Left
  as_alone Dropped = Some alone.Dropped
  as_alone NotOpen = Some alone.NotOpen
  as_alone Worn = Some alone.Worn
  as_alone Full = Some alone.Full
  as_alone Hold = Some alone.Hold
  as_alone NotOut = Some alone.NotOut
  as_alone Retuned = Some alone.Retuned
  as_alone Waiting = Some alone.Waiting
  as_alone NoExport = None
  as_alone NoMemory = None

  -- memory was there, as far as the answer tells
  abbrev pub mark_of : Answer A → Bool
  mark_of (Performed memory) = memory
  mark_of NoMemory = false
  mark_of said = true

  abbrev pub marks_of : List (Answer A) → List Bool
  marks_of answers = map mark_of answers

  -- it isn't the answer of a step that found no memory
  abbrev pub is_made : Answer A → Bool
  is_made NoMemory = false
  is_made said = true

  -- a choice of export e
  abbrev pub is_choice_of : ℕ → Answer A → Bool
  is_choice_of e (Picked chosen n phase) = chosen == e
  is_choice_of e said = false

  -- the own step of export e that an event was, if it was one
  abbrev pub own_of : ℕ → Event A → Answer A → Option (Step A)
  own_of e (Attach named) said = if named == e && is_made said then Some step.Attach else None
  own_of e (Arrive named s t q) said = if named == e && is_made said then Some (step.Arrive s t q) else None
  own_of e (Dispatch t) said = if is_choice_of e said then Some step.Pick else None
  own_of e (Perform named n) said = if named == e && is_made said then Some (step.Perform n (mark_of said)) else None
  own_of e (Take named s) said = if named == e && is_made said then Some (step.Take s) else None
  own_of e (Leave named s) said = if named == e && is_made said then Some (step.Leave s) else None
  own_of e (Gone named s) said = if named == e && is_made said then Some (step.Gone s) else None
  own_of e (Retune named rates) said = if named == e && is_made said then Some (step.Retune rates) else None

  -- what export e was told by it
  abbrev pub told_of : ℕ → Event A → Answer A → Option (StepAnswer A)
  told_of e event said = when_some (own_of e event said) (λ one. as_alone said) None

  -- the own steps of export e in a run, and what it was told at the same places
  abbrev pub own : ℕ → List (Event A) → List (Answer A) → List (Step A)
  own e [] answers = []
  own e (event ∷ events) [] = []
  own e (event ∷ events) (said ∷ answers) = option_to_list (own_of e event said) ++ own e events answers

  abbrev pub told : ℕ → List (Event A) → List (Answer A) → List (StepAnswer A)
  told e [] answers = []
  told e (event ∷ events) [] = []
  told e (event ∷ events) (said ∷ answers) = option_to_list (told_of e event said) ++ told e events answers

  -- the export that an event names
  abbrev pub named : Event A → Option ℕ
  named (Attach e) = Some e
  named (Arrive e s t q) = Some e
  named (Dispatch t) = None
  named (Perform e n) = Some e
  named (Take e s) = Some e
  named (Leave e s) = Some e
  named (Gone e s) = Some e
  named (Retune e rates) = Some e
