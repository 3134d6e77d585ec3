-- A turn of a session that takes a reply and writes it: what it does to its pass and its writer.
use Rattle.std.specs.Prelude.{◌≡◌, ◌⊎◌, List, [], Err}
use Rattle.nbd_wire.specs.Grammar.{ReplyMessage}
use Rattle.server_core.specs.declared.session.SessionId.{SessionId}
use Rattle.server_lock.specs.declared.trace.AnswerTrace.TheVariants as answer
use Rattle.server_lock.specs.Scores.{Score}
use Rattle.nbd_stream.specs.declared.exact_io.WriteFailed.{WriteFailed}
use Rattle.session_turns.specs.declared.taking.Stop.{Stop}
use Rattle.session_turns.specs.declared.taking.Stop.TheVariants.{Full}
use Rattle.session_turns.specs.declared.turns.WriteTurn.{WriteTurn}
use Rattle.session_turns.specs.declared.turns.WriteTurn.TheVariants as writes
use Rattle.session_turns.specs.SessionTurns.{Turns, IsTake, IsRefused, Drops}
use Rattle.session_turns.specs.Taking.{TakesOne}
use Rattle.session_turns.specs.Outgoing.{Outgoing, WritesAll, Writes, texts_of}

-- what waited was written, and no reply is there any more
abbrev pub WritesRest : Outgoing → Outgoing → Type 0
WritesRest old new = WritesAll (texts_of old.waiting) [] old new

-- a reply was taken or not, and a write failed
pub record WriteEnds (p : Score) (s : SessionId) (old new : Outgoing) (q : Score) : Type 0 where
  pub stop : Stop
  pub all : List ReplyMessage
  pub r : Score
  pub takes : TakesOne p s old.waiting old.room stop all r
  pub failure : WriteFailed
  pub fails : Writes (texts_of all) [] (record old { waiting = all }) new (Err failure)
  pub drops : Drops r s q

-- the session isn't there any more; or it had left and got all its replies; or a reply could not be written. In these
-- two cases it was dropped
abbrev pub IsOver : Score → SessionId → Outgoing → Outgoing → Score → Type 0
IsOver p s old new q = (Turns p (IsTake s) IsRefused 0 q × WritesRest old new)
    ⊎ ((r : Score) × Turns p (IsTake s) (λ a. a ≡ answer.End) 0 r × Drops r s q × WritesRest old new)
    ⊎ WriteEnds p s old new q

-- a reply was taken, where there was room for it, and written behind those that waited
abbrev pub IsWriteTurn : Score → SessionId → Outgoing → Outgoing → WriteTurn → Score → Type 0
IsWriteTurn p s old new writes.Written q = (all : List ReplyMessage) × TakesOne p s old.waiting old.room Full all q × WritesAll (texts_of all) [] old new
IsWriteTurn p s old new writes.Idle q = Turns p (IsTake s) (λ a. a ≡ answer.Empty) 0 q × WritesRest old new
IsWriteTurn p s old new writes.Ended q = IsOver p s old new q
