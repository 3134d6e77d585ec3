-- The order of a session's replies, whatever the order of the calls.
use Rattle.std.specs.Prelude.{◌≡◌, ℕ, true, false, List, [], ◌∷◌, ◌++◌, Option, Result}
use Rattle.std.specs.Io.KnownBytes.{Appends, Keeps}
use Rattle.nbd_wire.specs.Grammar.{ReplyMessage, reply_text}
use Rattle.nbd_stream.specs.declared.exact_io.WriteFailed.{WriteFailed}
use Rattle.nbd_stream.specs.Streams.{WritesPart}
use Rattle.session_turns.specs.Outgoing.{Outgoing, IsFresh, Writes, texts_of}

-- Of these replies, all were written but those that wait, behind what stood there at the start; or a write failed, and a
-- beginning of their text was written.
pub record Follows (start : Option (List ℕ)) (replies : List ReplyMessage) (now : Outgoing) : Type 0 where
  pub whole : now.broken ≡ false → (written : List ReplyMessage) × (replies ≡ written ++ now.waiting) × Appends start now.text (texts_of written)
  pub part : now.broken ≡ true → WritesPart start now.text (texts_of replies)

-- at first
abbrev pub IsBegun : Type 0
IsBegun = (start : Option (List ℕ)) (room : ℕ) (new : Outgoing) → IsFresh start room new → Follows start [] new

-- behind a call that takes more
abbrev pub IsTaken : Type 0
IsTaken =
    (start : Option (List ℕ)) (replies more : List ReplyMessage) (old new : Outgoing)
    → Follows start replies old → new ≡ record old { waiting = old.waiting ++ more } → Follows start (replies ++ more) new

-- behind one that writes those that wait
abbrev pub IsWritten : Type 0
IsWritten =
    (start : Option (List ℕ)) (replies : List ReplyMessage) (old new : Outgoing) (result : Result (Unit {0}) WriteFailed)
    → Follows start replies old → Writes (texts_of old.waiting) [] old new result → Follows start replies new

-- behind one that writes a reply that was made ready, before those that wait
abbrev pub IsReadyWritten : Type 0
IsReadyWritten =
    (start : Option (List ℕ)) (replies : List ReplyMessage) (ready : ReplyMessage) (old new : Outgoing) (result : Result (Unit {0}) WriteFailed)
    → old.broken ≡ false → Follows start replies old → Writes (reply_text ready) old.waiting old new result
    → (written : List ReplyMessage) × (replies ≡ written ++ old.waiting) × Follows start (written ++ ready ∷ old.waiting) new

-- behind one that sends
abbrev pub IsSent : Type 0
IsSent =
    (start : Option (List ℕ)) (replies : List ReplyMessage) (old new : Outgoing)
    → Follows start replies old → Keeps old.text new.text → new ≡ record old { text = new.text; failures = new.failures } → Follows start replies new
