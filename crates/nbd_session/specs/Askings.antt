-- Where in a handshake sessions are asked for.
use Rattle.std.specs.Prelude.{◌≡◌, ◌≢◌, ℕ, ◌≤◌, ◌⊎◌, Bool, Some, None, List, [], ◌∷◌, ◌++◌, length, Option, Result, Ok, Err}
use Rattle.std.specs.List.{flat_map, AllByRecursion}
use Rattle.std.specs.Int.{w32, to_be_bytes}
use Rattle.std.specs.Io.KnownBytes.{Consumes}
use Rattle.nbd_options.specs.declared.attach.Attached.{Attached}
use Rattle.nbd_options.specs.declared.attach.Attached.TheVariants as attached
use Rattle.nbd_options.specs.declared.saying.HaggleEnd.{HaggleEnd}
use Rattle.nbd_base.specs.Logs.{Notes}
use Rattle.nbd_options.specs.Asking.{Asking, asked_by, one_asking}
use Rattle.nbd_options.specs.Exports.{ExportFacts}
use Rattle.nbd_options.specs.Replies.{next_after}
use Rattle.nbd_options.specs.Haggled.{Asked, said_to, wants_no_zeroes}
use Rattle.nbd_session.specs.declared.outcomes.End.{End}
use Rattle.nbd_session.specs.declared.outcomes.Entry.{Entry}
use Rattle.nbd_session.specs.declared.outcomes.Entry.TheVariants as entries
use Rattle.nbd_session.specs.declared.outcomes.TalkFault.{TalkFault}
use Rattle.nbd_session.specs.declared.outcomes.TalkFault.TheVariants as faults
use Rattle.nbd_session.specs.Options.{asked_text, IsAsked, GoesOn, StopsAt, OptionStops, entry_after}

-- what is asked for at an option
abbrev pub asked_at : List ExportFacts → Asked → List Asking
asked_at table a = asked_by (next_after table a.option) a.answer

abbrev pub asked_in : List ExportFacts → List Asked → List Asking
asked_in table asked = flat_map (asked_at table) asked

-- the option that ended haggling, or at which a call failed, and what is asked for at it, if there is one
abbrev pub last_text : Option Asked → List ℕ
last_text None = []
last_text (Some a) = asked_text a

abbrev pub asked_last : List ExportFacts → Option Asked → List Asking
asked_last table None = []
asked_last table (Some a) = asked_at table a

-- How it went: the last option ends haggling by what is said to it, or a call failed once it was read; where there is none, no whole
-- option to be answered stands behind the others, or a read failed there.
abbrev pub EndsBy : (ℕ → Attached → Type 0) → List ExportFacts → Bool → ℕ → Option Asked → List ℕ → Result Entry TalkFault → Type 0
EndsBy may table bare seen (Some a) behind (Ok entry) =
    IsAsked may table a × (behind ≡ []) × (end : HaggleEnd) × ((said_to table bare a).end ≡ Some end) × (entry ≡ entry_after end)
EndsBy may table bare seen (Some a) behind (Err fault) = IsAsked may table a × (behind ≡ []) × (fault ≢ faults.ReadFailed)
EndsBy may table bare seen None behind (Ok entry) = StopsAt seen behind entry
EndsBy may table bare seen None behind (Err fault) = (end : End) × OptionStops seen behind end × (fault ≢ faults.WriteFailed)

-- Behind a front the bytes that were read spell options, behind each of which but the last haggling goes on. At these sessions were
-- asked for, in this order, and nowhere else.
pub record AsksBehind (may : ℕ → Attached → Type 0) (table : List ExportFacts) (bare : Bool) (front : List ℕ) (asked_old asked_new : Option (List Asking)) (old new : Option (List ℕ)) (result : Result Entry TalkFault) : Type 0 where
  pub asked : List Asked
  pub last : Option Asked
  pub behind : List ℕ
  pub took : Consumes old new (front ++ (flat_map asked_text asked ++ (last_text last ++ behind)))
  pub each : AllByRecursion (GoesOn may table bare) asked
  pub noted : Notes asked_old asked_new (asked_in table asked ++ asked_last table last)
  pub ends : EndsBy may table bare (length asked) last behind result

-- the client is in no export
abbrev pub IsOutside : Result Entry TalkFault → Type 0
IsOutside (Ok (entries.In n)) = ⊥
IsOutside (Ok entries.Refused) = ⊥
IsOutside (Ok (entries.Out end)) = Unit {0}
IsOutside (Err fault) = Unit {0}

-- the handshake ended before any option, and no session was asked for
pub record AsksForNone (asked_old asked_new : Option (List Asking)) (old new : Option (List ℕ)) (result : Result Entry TalkFault) : Type 0 where
  pub bytes : List ℕ
  pub took : Consumes old new bytes
  pub few : length bytes ≤ 4
  pub noted : Notes asked_old asked_new []
  pub outside : IsOutside result

-- the client's flags are known, and options follow
pub record AsksBehindFlags (may : ℕ → Attached → Type 0) (table : List ExportFacts) (asked_old asked_new : Option (List Asking)) (old new : Option (List ℕ)) (result : Result Entry TalkFault) : Type 0 where
  pub flags : ℕ
  pub bare : Bool
  pub known : wants_no_zeroes flags ≡ Some bare
  pub asks : AsksBehind may table bare (to_be_bytes w32 flags) asked_old asked_new old new result

-- which sessions a handshake asked for
abbrev pub Asks : (ℕ → Attached → Type 0) → List ExportFacts → Option (List Asking) → Option (List Asking) → Option (List ℕ) → Option (List ℕ) → Result Entry TalkFault → Type 0
Asks may table asked_old asked_new old new result =
    AsksForNone asked_old asked_new old new result ⊎ AsksBehindFlags may table asked_old asked_new old new result

-- a session of an export all of whose sessions were taken
abbrev pub IsFull : Asking → Type 0
IsFull a = a.answer ≡ attached.Full

-- which sessions were asked for, by how the handshake ended: in an export its session last, which was given; and none was given before
-- that, nor where it ended otherwise
abbrev pub EndsAsked : List Asking → Result Entry TalkFault → Type 0
EndsAsked more (Ok (entries.In n)) = (before : List Asking) × (more ≡ before ++ one_asking n attached.Given ∷ []) × AllByRecursion IsFull before
EndsAsked more (Ok entries.Refused) = (before : List Asking) × (last : Asking) × (more ≡ before ++ last ∷ []) × AllByRecursion IsFull before × (last.answer ≢ attached.Given)
EndsAsked more (Ok (entries.Out end)) = AllByRecursion IsFull more
EndsAsked more (Err fault) = Unit {0}

abbrev pub AskedAtTheEnd : (ℕ → Attached → Type 0) → List ExportFacts → Type 0
AskedAtTheEnd may table = (before now : List Asking) (old new : Option (List ℕ)) (result : Result Entry TalkFault) → Asks may table (Some before) (Some now) old new result
    → (more : List Asking) × (now ≡ before ++ more) × EndsAsked more result
