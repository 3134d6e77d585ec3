-- What calls that read requests took, and what they gave.
use Rattle.std.specs.Prelude.{◌≡◌, ◌⊎◌, ℕ, ◌<◌, false, List, [], ◌++◌, length, reverse, Option, Some, None, Result, Ok, Err}
use Rattle.std.specs.List.{AllByRecursion}
use Rattle.std.specs.Io.KnownBytes.{Consumes, IsAtEnd}
use Rattle.nbd_wire.specs.declared.fault.FeedFault.{FeedFault}
use Rattle.nbd_wire.specs.declared.fault.FeedFault.TheVariants as faults
use Rattle.nbd_wire.specs.Grammar.{request_text, RequestMessage, IsRequest, IsUnfinished, BeginsOther, BeginsTooLong}
use Rattle.nbd_wire.specs.Pieces.{Decoding, texts}
use Rattle.nbd_stream.specs.declared.ending.Ending.{Ending}
use Rattle.nbd_stream.specs.declared.ending.Ending.TheVariants as ends
use Rattle.nbd_stream.specs.declared.ending.Frame.{Frame}
use Rattle.nbd_stream.specs.declared.ending.Frame.TheVariants as frames
use Rattle.nbd_stream.specs.Streams.{Rises, AreBytes}

-- the bytes that were read and stand in no request that was given, how many requests of them are ready to be given, and
-- how the reading ended, once that was told
pub record Reading : Type 0 where
  pub kept : List ℕ
  pub ready : ℕ
  pub ended : Option Ending

-- the same, with what the reader has left, where that is known, and its failures
pub record Stream : Type 0 where
  pub left : Option (List ℕ)
  pub failures : ℕ
  pub reading : Reading

-- what is known of the bytes that stand in no request, where the reading ended so
abbrev pub IsEnded : Ending → List ℕ → Type 0
IsEnded ends.Over bytes = bytes ≡ []
IsEnded ends.Cut bytes = (0 < length bytes) × IsUnfinished bytes
IsEnded ends.BadMagic bytes = BeginsOther bytes
IsEnded ends.TooLong bytes = BeginsTooLong bytes
IsEnded ends.ReadFailed bytes = IsUnfinished bytes
IsEnded ends.NoMemory bytes = Unit {0}

-- what the reader did then: it told its end, or failed. Where no failed read is told, its count of failures stayed
abbrev pub EndsReader : Ending → Option (List ℕ) → ℕ → ℕ → Type 0
EndsReader ends.Over left before now = IsAtEnd left × (now ≡ before)
EndsReader ends.Cut left before now = IsAtEnd left × (now ≡ before)
EndsReader ends.BadMagic left before now = now ≡ before
EndsReader ends.TooLong left before now = now ≡ before
EndsReader ends.ReadFailed left before now = Rises before now
EndsReader ends.NoMemory left before now = now ≡ before

-- the reading ended so behind these bytes
pub record Stops (e : Ending) (bytes : List ℕ) (new : Reading) (left : Option (List ℕ)) (before now : ℕ) : Type 0 where
  pub stands : IsEnded e bytes
  pub reader : EndsReader e left before now
  pub told : new.ended ≡ Some e

-- a request is the first of these bytes, and those behind it are kept
pub record Gives (q : RequestMessage) (bytes : List ℕ) (new : Reading) (before now : ℕ) : Type 0 where
  pub spelled : bytes ≡ request_text q ++ new.kept
  pub request : IsRequest q
  pub not_told : new.ended ≡ None
  pub none_failed : now ≡ before

module _ {A : Type 0} where
  abbrev pub IsNext : List ℕ → Reading → Option (List ℕ) → ℕ → ℕ → Frame A → Type 0
  IsNext bytes new left before now (frames.Whole q) = Gives q bytes new before now
  IsNext bytes new left before now (frames.Ended e) = Stops e bytes new left before now

  -- a request
  abbrev pub IsWhole : Frame A → Type 0
  IsWhole (frames.Whole q) = Unit {0}
  IsWhole (frames.Ended e) = ⊥

  -- Some bytes were read, and of those kept and those read then this frame is the first.
  pub record Nexts (old new : Reading) (left later : Option (List ℕ)) (before now : ℕ) (frame : Frame A) : Type 0 where
    pub bytes : List ℕ
    pub took : Consumes left later bytes
    pub are_bytes : AreBytes bytes
    pub next : IsNext (old.kept ++ bytes) new later before now frame

-- ---- inside

abbrev pub ending_of : FeedFault → Ending
ending_of faults.BadMagic = ends.BadMagic
ending_of faults.TooLong = ends.TooLong
ending_of faults.NoMemory = ends.NoMemory
ending_of faults.Failed = ends.NoMemory

-- the requests that are ready, the last first, and the bytes behind them
abbrev pub kept_of : List RequestMessage → List ℕ → List ℕ
kept_of ready held = texts (reverse ready) ++ held

-- what stands behind the requests that are ready, by the fault that was met there
abbrev pub IsBehindReady : Option FeedFault → Decoding → Type 0
IsBehindReady None d = (d.failed ≡ false) × IsUnfinished d.held
IsBehindReady (Some faults.BadMagic) d = BeginsOther d.held
IsBehindReady (Some faults.TooLong) d = BeginsTooLong d.held
IsBehindReady (Some faults.NoMemory) d = Unit {0}
IsBehindReady (Some faults.Failed) d = ⊥

pub record IsFraming (ready : List RequestMessage) (fault : Option FeedFault) (decoder : Decoding) : Type 0 where
  pub each : AllByRecursion IsRequest (reverse ready)
  pub behind : IsBehindReady fault decoder

-- A piece was taken: it makes requests ready. Where memory was refused it may be lost.
pub record TakesIn (held piece : List ℕ) (ready : List RequestMessage) (decoder : Decoding) (fault : Option FeedFault) : Type 0 where
  pub framing : IsFraming ready fault decoder
  pub keeps : (held ++ piece ≡ kept_of ready decoder.held) ⊎ ((ready ≡ []) × (fault ≡ Some faults.NoMemory))

-- pieces were taken, or the reading ended
abbrev pub IsFetched : List ℕ → List ℕ → List RequestMessage → Decoding → Option (List ℕ) → ℕ → ℕ → Result (Option FeedFault) Ending → Type 0
IsFetched held bytes ready decoder left before now (Ok fault) = TakesIn held bytes ready decoder fault × (now ≡ before)
IsFetched held bytes ready decoder left before now (Err e) = IsEnded e (held ++ bytes) × EndsReader e left before now × (ready ≡ []) × IsBehindReady None decoder

pub record Fetches (left later : Option (List ℕ)) (before now : ℕ) (held : List ℕ) (ready : List RequestMessage) (decoder : Decoding) (result : Result (Option FeedFault) Ending) : Type 0 where
  pub bytes : List ℕ
  pub took : Consumes left later bytes
  pub are_bytes : AreBytes bytes
  pub fetched : IsFetched held bytes ready decoder later before now result

-- a request was taken, or the reading ended
abbrev pub IsAdvanced : List ℕ → List ℕ → Option (List ℕ) → ℕ → ℕ → Result RequestMessage Ending → Type 0
IsAdvanced bytes kept left before now (Ok q) = (bytes ≡ request_text q ++ kept) × IsRequest q × (now ≡ before)
IsAdvanced bytes kept left before now (Err e) = IsEnded e bytes × EndsReader e left before now

pub record Advances (left later : Option (List ℕ)) (before now : ℕ) (ready : List RequestMessage) (held : List ℕ) (ready_then : List RequestMessage) (held_then : List ℕ) (result : Result RequestMessage Ending) : Type 0 where
  pub bytes : List ℕ
  pub took : Consumes left later bytes
  pub are_bytes : AreBytes bytes
  pub advanced : IsAdvanced (kept_of ready held ++ bytes) (kept_of ready_then held_then) later before now result
