-- The answer of a server to a step that an export answered.
use Rattle.std.specs.Prelude.{ℕ}
use Rattle.tag_clock.specs.declared.Phase.{Phase}
use Rattle.lone_export.specs.declared.step.StepAnswer.{StepAnswer}
use Rattle.lone_export.specs.declared.step.StepAnswer.TheVariants as alone
use Rattle.server_table.specs.declared.event.Answer.{Answer}
use Rattle.server_table.specs.declared.event.Answer.TheVariants.{Session, Accepted, Answered, Picked, Nothing, Performed, Reply, Empty, End, Left, Dropped, NotOpen, Worn, Full, Hold, NotOut, Retuned, Waiting}

module _ {A : Type 0} where
  -- the export and the phase are those of a choice
  abbrev pub as_answer : ℕ → Phase → StepAnswer A → Answer A
  as_answer e phase (alone.Session n) = Session n
  as_answer e phase (alone.Accepted n tag) = Accepted n tag
  as_answer e phase (alone.Answered error) = Answered error
  as_answer e phase (alone.Picked n) = Picked e n phase
  as_answer e phase alone.Nothing = Nothing
  as_answer e phase (alone.Performed memory) = Performed memory
  as_answer e phase (alone.Reply reply) = Reply reply
  as_answer e phase alone.Empty = Empty
  as_answer e phase alone.End = End
  as_answer e phase alone.Left = Left
  as_answer e phase alone.Dropped = Dropped
  as_answer e phase alone.NotOpen = NotOpen
  as_answer e phase alone.Worn = Worn
  as_answer e phase alone.Full = Full
  as_answer e phase alone.Hold = Hold
  as_answer e phase alone.NotOut = NotOut
  as_answer e phase alone.Retuned = Retuned
  as_answer e phase alone.Waiting = Waiting
