-- A stream of requests that comes in pieces.
use Rattle.std.specs.Prelude.{◌≡◌, ◌<◌, ◌≤◌, ◌⊎◌, ℕ, length, [], Bool, true, false, List, ◌++◌, Option, Some, None, Result, Ok, Err, is_err}
use Rattle.std.specs.List.{flat_map, AllByRecursion}
use Rattle.nbd_wire.specs.declared.fault.FeedFault.{FeedFault}
use Rattle.nbd_wire.specs.declared.fault.FeedFault.TheVariants as faults
use Rattle.nbd_wire.specs.Grammar.{request_text, RequestMessage, IsHead, IsTooLong, IsRequest, IsUnfinished, BeginsOther, BeginsTooLong}

abbrev pub texts : List RequestMessage → List ℕ
texts requests = flat_map request_text requests

-- the bytes of no whole request so far, and whether a call failed
pub record Decoding : Type 0 where
  pub held : List ℕ
  pub failed : Bool

-- what stands at the front of some bytes
abbrev pub IsFirst : List ℕ → Result (Option RequestMessage) FeedFault → Type 0
IsFirst bytes (Ok (Some q)) = (more : List ℕ) × (bytes ≡ request_text q ++ more) × IsRequest q
IsFirst bytes (Ok None) = IsUnfinished bytes
IsFirst bytes (Err faults.BadMagic) = BeginsOther bytes
IsFirst bytes (Err faults.TooLong) = BeginsTooLong bytes
IsFirst bytes (Err faults.NoMemory) = Unit {0}
IsFirst bytes (Err faults.Failed) = ⊥

-- what stands behind the requests that were taken
abbrev pub IsBehind : {T : Type 0} → List ℕ → Result T FeedFault → Type 0
IsBehind left (Ok r) = IsUnfinished left
IsBehind left (Err faults.BadMagic) = BeginsOther left
IsBehind left (Err faults.TooLong) = BeginsTooLong left
IsBehind left (Err faults.NoMemory) = Unit {0}
IsBehind left (Err faults.Failed) = ⊥

-- Some requests came to a list, and the bytes are their texts and then what is left.
pub record Takes (bytes left : List ℕ) (before after : List RequestMessage) : Type 0 where
  pub given : List RequestMessage
  pub spelled : bytes ≡ texts given ++ left
  pub added : after ≡ before ++ given
  pub each : AllByRecursion IsRequest given

-- What a call that is fed a piece leaves and answers, where none failed before.
abbrev pub Gathers : {T : Type 0} → List ℕ → List ℕ → List ℕ → List RequestMessage → List RequestMessage → Result T FeedFault → Type 0
Gathers held piece left before after (Ok r) = Takes (held ++ piece) left before after × IsUnfinished left
Gathers held piece left before after (Err faults.BadMagic) = Takes (held ++ piece) left before after × BeginsOther left
Gathers held piece left before after (Err faults.TooLong) = Takes (held ++ piece) left before after × BeginsTooLong left
Gathers held piece left before after (Err faults.NoMemory) = Takes (held ++ piece) left before after ⊎ ((after ≡ before) × (left ≡ held))
Gathers held piece left before after (Err faults.Failed) = ⊥

-- What a decoder is after a piece: one that failed before only tells so.
abbrev pub Feeds : {T : Type 0} → Decoding → List ℕ → Decoding → List RequestMessage → List RequestMessage → Result T FeedFault → Type 0
Feeds old piece new before after result =
    ((old.failed ≡ false) × (new.failed ≡ is_err result) × Gathers old.held piece new.held before after result)
    ⊎ ((old.failed ≡ true) × (result ≡ Err faults.Failed) × (new ≡ old) × (after ≡ before))

-- ---- a WRITE whose payload came in part

-- at least the last byte of its payload is missing
pub record IsBegun (m : RequestMessage) : Type 0 where
  pub fits : IsHead m.head
  pub short : IsTooLong m.head → ⊥
  pub write : m.head.kind ≡ 1
  pub part : length m.payload < m.head.length

-- the bytes are no WRITE of so many bytes of which a part is missing
abbrev pub NoneBegins : ℕ → List ℕ → Type 0
NoneBegins least bytes = (m : RequestMessage) → IsBegun m → bytes ≡ request_text m → m.head.length < least

-- the bytes are a WRITE of so many bytes, or of more, of which a part is missing
abbrev pub IsLong : ℕ → List ℕ → RequestMessage → Type 0
IsLong least bytes m = (bytes ≡ request_text m) × IsBegun m × (least ≤ m.head.length)

abbrev pub BeginsLong : ℕ → List ℕ → Option RequestMessage → Type 0
BeginsLong least bytes (Some m) = IsLong least bytes m
BeginsLong least bytes None = NoneBegins least bytes

-- A decoder hands over the long WRITE that it holds, and then holds nothing.
abbrev pub HandsOver : ℕ → Decoding → Decoding → Option RequestMessage → Type 0
HandsOver least old new (Some m) = IsLong least old.held m × (new ≡ record { held = []; failed = false })
HandsOver least old new None = (old.failed ≡ false → NoneBegins least old.held) × (new ≡ old)
