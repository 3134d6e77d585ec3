-- Replies that a session took, on their way to its client.
use Rattle.std.specs.Prelude.{◌≡◌, ◌⊎◌, ◌≤◌, ℕ, Bool, true, false, List, [], Option, Result, Ok, Err}
use Rattle.std.specs.List.{flat_map}
use Rattle.std.specs.Io.KnownBytes.{Appends}
use Rattle.nbd_wire.specs.Grammar.{ReplyMessage, reply_text}
use Rattle.nbd_stream.specs.declared.exact_io.WriteFailed.{WriteFailed}
use Rattle.nbd_stream.specs.Streams.{Rises, WritesPart}
use Rattle.session_turns.specs.declared.ready_reply.ReadyReply.{ReadyReply}
use Rattle.session_turns.specs.declared.ready_reply.ReadyReply.TheVariants.{Text, Whole}

-- what was written so far, where that is known, and the failures of it; the replies that were taken and aren't written yet, for how
-- many there is room, and whether a write failed
pub record Outgoing : Type 0 where
  pub text : Option (List ℕ)
  pub failures : ℕ
  pub waiting : List ReplyMessage
  pub room : ℕ
  pub broken : Bool

-- replies one behind another, and their data
abbrev pub texts_of : List ReplyMessage → List ℕ
texts_of replies = flat_map reply_text replies

abbrev pub data_of : List ReplyMessage → List ℕ
data_of replies = flat_map (λ r. r.content) replies

-- the text of a reply that is ready
module _ {A : Type 0} where
  abbrev pub ready_text : ReadyReply A → List ℕ
  ready_text (Text text) = text.items
  ready_text (Whole reply) = reply_text reply

-- no reply was taken yet
pub record IsFresh (text : Option (List ℕ)) (room : ℕ) (new : Outgoing) : Type 0 where
  pub begins : new.text ≡ text
  pub none : new.waiting ≡ []
  pub unfailed : new.failures ≡ 0
  pub unbroken : new.broken ≡ false
  pub has_room : room ≤ new.room

-- a write failed that had not failed before: a beginning of the text was written
pub record Breaks (text : List ℕ) (old new : Outgoing) : Type 0 where
  pub unbroken : old.broken ≡ false
  pub part : WritesPart old.text new.text text
  pub fails : Rises old.failures new.failures
  pub rest : new ≡ record old { text = new.text; failures = new.failures; broken = true }

-- a text was written whole, and these replies wait then
pub record WritesAll (text : List ℕ) (left : List ReplyMessage) (old new : Outgoing) : Type 0 where
  pub unbroken : old.broken ≡ false
  pub whole : Appends old.text new.text text
  pub rest : new ≡ record old { text = new.text; waiting = left }

-- a text was written, and these replies wait then; or a write failed, now or before
abbrev pub Writes : List ℕ → List ReplyMessage → Outgoing → Outgoing → Result (Unit {0}) WriteFailed → Type 0
Writes text left old new (Ok done) = WritesAll text left old new
Writes text left old new (Err failed) = Breaks text old new ⊎ ((old.broken ≡ true) × (new ≡ old))
