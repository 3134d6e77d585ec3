-- The bytes that stand in no request yet: those of a decoder, or of a long WRITE whose payload goes into its pages as it comes.
use Rattle.std.specs.Prelude.{◌≡◌, ℕ, ◌<◌, ◌≤◌, false, List, [], ◌++◌, length, Option, Some, None}
use Rattle.std.specs.Io.KnownBytes.{Consumes}
use Rattle.nbd_wire.specs.Grammar.{request_text, RequestMessage, IsHead, IsTooLong, IsUnfinished}
use Rattle.nbd_wire.specs.Pieces.{Decoding}
use Rattle.nbd_stream.specs.declared.ending.Ending.{Ending}
use Rattle.nbd_stream.specs.Streams.{AreBytes}
use Rattle.nbd_stream.specs.Frames.{IsEnded, EndsReader}

-- a decoder that holds nothing
abbrev pub nothing_held : Decoding
nothing_held = record { held = []; failed = false }

-- a long WRITE that has begun, or else what a decoder holds
abbrev pub taken_in : Option RequestMessage → Decoding → Decoding
taken_in (Some m) d = record { held = request_text m; failed = false }
taken_in None d = d

-- where a long WRITE has begun, the decoder holds nothing
abbrev pub IsTakenIn : Option RequestMessage → Decoding → Type 0
IsTakenIn (Some m) d = d ≡ nothing_held
IsTakenIn None d = Unit {0}

-- a WRITE and what came of its payload, which may be all
pub record IsPartly (m : RequestMessage) : Type 0 where
  pub fits : IsHead m.head
  pub short : IsTooLong m.head → ⊥
  pub write : m.head.kind ≡ 1
  pub part : length m.payload ≤ m.head.length

-- bytes were read behind a payload, and none behind its end
pub record Lengthens (left later : Option (List ℕ)) (old new : List ℕ) (whole : ℕ) : Type 0 where
  pub bytes : List ℕ
  pub took : Consumes left later bytes
  pub are_bytes : AreBytes bytes
  pub added : new ≡ old ++ bytes
  pub some : 0 < length bytes
  pub within : length new ≤ whole

-- nothing more was read, and so the reading ends within a request
pub record EndsWithin (left later : Option (List ℕ)) (before now : ℕ) (e : Ending) : Type 0 where
  pub took : Consumes left later []
  pub reader : EndsReader e later before now
  pub stands : (bytes : List ℕ) → 0 < length bytes → IsUnfinished bytes → IsEnded e bytes
