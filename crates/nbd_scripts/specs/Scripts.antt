-- What a command writes of the script that it reads.
use Rattle.std.specs.Prelude.{◌≡◌, ℕ, ◌⊎◌, List, codes, Option, IsErr}
use Rattle.std.specs.Io.KnownBytes.{Appends}
use Rattle.hex.specs.Hex.{decode_of}
use Rattle.nbd_commands.specs.Exports.{Offer}
use Rattle.server_table.specs.Table.{Setup}
use Rattle.server_core.specs.Served.{setup_for}
use Rattle.nbd_scripts.specs.declared.replay_line.ReplayLine.{ReplayLine}
use Rattle.nbd_scripts.specs.declared.fault.LineFault.{LineFault}
use Rattle.nbd_scripts.specs.declared.outcome.Outcome.{Outcome}
use Rattle.nbd_scripts.specs.declared.outcome.Outcome.TheVariants as outcome
use Rattle.nbd_scripts.specs.Lines.{lines_in}
use Rattle.nbd_scripts.specs.Head.{HasHead, HeadRefused}
use Rattle.nbd_scripts.specs.Events.{Asks, MissesLine}
use Rattle.nbd_scripts.specs.Output.{digits_of, Prints}
use Rattle.nbd_scripts.specs.Replayed.{Replays, ReplaysFirst}
use Rattle.nbd_scripts.specs.Told.{IsWhole, refusal_line, CutShort}

-- what the input of a command had left and has left, and what its output held and holds
pub record Streams : Type 0 where
  pub unread : Option (List ℕ)
  pub left : Option (List ℕ)
  pub old : Option (List ℕ)
  pub new : Option (List ℕ)

-- the same with another output
abbrev pub with_output : Streams → Option (List ℕ) → Streams
with_output streams output = record streams { new = output }

-- the whole input is a script with this head, of so many lines, and this body
pub record HasBody (streams : Streams) (offer : Offer) (above : ℕ) (body : List ℕ) : Type 0 where
  pub script : List ℕ
  pub whole : IsWhole streams.unread streams.left script
  pub head : HasHead script offer above body

-- the first refused line of the head is written
pub record RefusesHead (streams : Streams) : Type 0 where
  pub script : List ℕ
  pub whole : IsWhole streams.unread streams.left script
  pub number : ℕ
  pub fault : LineFault
  pub refused : HeadRefused script number fault
  pub written : Appends streams.old streams.new (refusal_line number fault)

-- ---- talk

-- the conversation of the client whose bytes stand behind the head is written
pub record Talks (streams : Streams) : Type 0 where
  pub offer : Offer
  pub above : ℕ
  pub body : List ℕ
  pub read : HasBody streams offer above body
  pub printed : Prints offer.exports body streams.old streams.new

-- that no bytes stand behind the head is written
pub record RefusesHex (streams : Streams) : Type 0 where
  pub offer : Offer
  pub above : ℕ
  pub body : List ℕ
  pub read : HasBody streams offer above body
  pub no_bytes : IsErr (decode_of (digits_of body))
  pub written : Appends streams.old streams.new (codes "hex refused\n")

-- the text of the conversation is written, or of a refusal
abbrev pub WritesTalk : Streams → Type 0
WritesTalk streams = Talks streams ⊎ (RefusesHead streams ⊎ RefusesHex streams)

-- a beginning of that text is
abbrev pub TalksPart : Streams → Type 0
TalksPart streams = CutShort (λ output. WritesTalk (with_output streams output)) streams.old streams.new

-- what was read and written, by how the command went. Where memory is refused, nothing is written
abbrev pub TellsTalk : Streams → Outcome → Type 0
TellsTalk streams outcome.Done = Talks streams
TellsTalk streams outcome.Refused = RefusesHead streams ⊎ RefusesHex streams
TellsTalk streams outcome.NoMemory = streams.new ≡ streams.old
TellsTalk streams outcome.ReadFailed = streams.new ≡ streams.old
TellsTalk streams outcome.WriteFailed = TalksPart streams

-- ---- replay

-- what is made of the lines behind the head is written
pub record WritesLines (A : Type 0) (streams : Streams) (made : Setup → List (ReplayLine A) → Option (List ℕ) → Option (List ℕ) → Type 0) : Type 0 where
  pub offer : Offer
  pub above : ℕ
  pub body : List ℕ
  pub read : HasBody streams offer above body
  pub asked : List (ReplayLine A)
  pub asks : Asks (lines_in body) asked
  pub replayed : made (setup_for offer) asked streams.old streams.new

-- what these lines are answered is
abbrev pub ReplaysLines : (A : Type 0) → Streams → Type 0
ReplaysLines A streams = WritesLines A streams (Replays {A = A})

-- what the first of them are answered is, and no more
abbrev pub ReplaysFirstLines : (A : Type 0) → Streams → Type 0
ReplaysFirstLines A streams = WritesLines A streams (ReplaysFirst {A = A})

-- the first refused line behind the head is written
pub record RefusesBody (A : Type 0) (streams : Streams) : Type 0 where
  pub offer : Offer
  pub above : ℕ
  pub body : List ℕ
  pub read : HasBody streams offer above body
  pub number : ℕ
  pub fault : LineFault
  pub missed : MissesLine A above body number fault
  pub written : Appends streams.old streams.new (refusal_line number fault)

-- the text of all lines is written, or of the first of them, or of a refusal
abbrev pub WritesReplay : (A : Type 0) → Streams → Type 0
WritesReplay A streams = (ReplaysLines A streams ⊎ ReplaysFirstLines A streams) ⊎ (RefusesHead streams ⊎ RefusesBody A streams)

-- a beginning of that text is
abbrev pub ReplaysPart : (A : Type 0) → Streams → Type 0
ReplaysPart A streams = CutShort (λ output. WritesReplay A (with_output streams output)) streams.old streams.new

-- what was read and written, by how the command went. Where memory is refused, whole lines are written or nothing
abbrev pub TellsReplay : (A : Type 0) → Streams → Outcome → Type 0
TellsReplay A streams outcome.Done = ReplaysLines A streams
TellsReplay A streams outcome.Refused = RefusesHead streams ⊎ RefusesBody A streams
TellsReplay A streams outcome.NoMemory = (streams.new ≡ streams.old) ⊎ ReplaysFirstLines A streams
TellsReplay A streams outcome.ReadFailed = streams.new ≡ streams.old
TellsReplay A streams outcome.WriteFailed = ReplaysPart A streams
