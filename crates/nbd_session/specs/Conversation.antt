-- The whole conversation of one client.
use Rattle.std.specs.Prelude.{◌≡◌, ℕ, ◌<◌, ◌⊎◌, ◌^◌, Bool, List, [], ◌++◌, map, length, Option, Some, None, slice_get}
use Rattle.std.specs.Int.{w32, to_be_bytes}
use Rattle.nbd_commands.specs.Exports.{Export, flags_of}
use Rattle.nbd_commands.specs.Terms.{terms_of}
use Rattle.nbd_options.specs.declared.attach.Attached.{Attached}
use Rattle.nbd_options.specs.declared.attach.Attached.TheVariants as attached
use Rattle.nbd_options.specs.Exports.{ExportFacts}
use Rattle.nbd_options.specs.Haggled.{greeting_text, wants_no_zeroes}
use Rattle.nbd_session.specs.declared.outcomes.End.{End}
use Rattle.nbd_session.specs.declared.outcomes.End.TheVariants as ends
use Rattle.nbd_session.specs.declared.outcomes.Entry.{Entry}
use Rattle.nbd_session.specs.declared.outcomes.Entry.TheVariants as entries
use Rattle.nbd_session.specs.Options.{Haggles}
use Rattle.nbd_session.specs.Requests.{Serves, opened}
use Rattle.nbd_session.specs.Outcomes.{IsTold}
use Rattle.nbd_stream.specs.Streams.{AreBytes}

-- ---- the handshake

-- what ends it at the client's flags: the bytes end before them or within them, or a flag is unknown
abbrev pub FlagsStop : List ℕ → Entry → Type 0
FlagsStop bytes (entries.Out ends.Over) = bytes ≡ []
FlagsStop bytes (entries.Out ends.Cut) = (0 < length bytes) × (length bytes < 4)
FlagsStop bytes (entries.Out ends.BadFlags) = (flags : ℕ) × (more : List ℕ) × (bytes ≡ to_be_bytes w32 flags ++ more) × (flags < 2 ^ 32) × (wants_no_zeroes flags ≡ None)
FlagsStop bytes entry = ⊥

-- the client's flags, and options behind them
pub record HasFlags (may : ℕ → Attached → Type 0) (table : List ExportFacts) (bytes text : List ℕ) (entry : Entry) (rest : List ℕ) : Type 0 where
  pub flags : ℕ
  pub more : List ℕ
  pub bare : Bool
  pub spelled : bytes ≡ to_be_bytes w32 flags ++ more
  pub fits : flags < 2 ^ 32
  pub known : wants_no_zeroes flags ≡ Some bare
  pub haggles : Haggles may table bare 0 more text entry rest

abbrev pub Greeted : (ℕ → Attached → Type 0) → List ExportFacts → List ℕ → List ℕ → Entry → List ℕ → Type 0
Greeted may table bytes text entry rest = ((text ≡ []) × (rest ≡ bytes) × FlagsStop bytes entry) ⊎ HasFlags may table bytes text entry rest

-- To these bytes the server says the greeting and this much more, the handshake ends so, and the rest are left.
abbrev pub Shaken : (ℕ → Attached → Type 0) → List ExportFacts → List ℕ → List ℕ → Entry → List ℕ → Type 0
Shaken may table bytes text entry rest = (later : List ℕ) × (text ≡ greeting_text ++ later) × Greeted may table bytes later entry rest

-- nothing is left where the client is in an export, or got no session
abbrev pub IsLeft : Entry → List ℕ → Type 0
IsLeft (entries.In n) rest = rest ≡ []
IsLeft entries.Refused rest = rest ≡ []
IsLeft (entries.Out end) rest = Unit {0}

-- the handshake of all these bytes, and of none behind them
abbrev pub Handshake : (ℕ → Attached → Type 0) → List ExportFacts → List ℕ → List ℕ → Entry → Type 0
Handshake may table bytes text entry = (rest : List ℕ) × Shaken may table bytes text entry rest × IsLeft entry rest

-- the options of all these bytes, and of none behind them, where so many came before
abbrev pub HagglesOn : (ℕ → Attached → Type 0) → List ExportFacts → Bool → ℕ → List ℕ → List ℕ → Entry → Type 0
HagglesOn may table bare seen bytes text entry = (rest : List ℕ) × Haggles may table bare seen bytes text entry rest × IsLeft entry rest

-- where the handshake ended by the end of the input, the reader had told it
abbrev pub IsEntryTold : Option (List ℕ) → Entry → Type 0
IsEntryTold new (entries.Out end) = IsTold new end
IsEntryTold new (entries.In n) = Unit {0}
IsEntryTold new entries.Refused = Unit {0}

-- ---- the whole

-- a session is always given
abbrev pub IsGiven : ℕ → Attached → Type 0
IsGiven export answer = answer ≡ attached.Given

-- what haggling tells of an export
abbrev pub facts_of : Export → ExportFacts
facts_of e = record { name = e.name; description = e.description; size = e.size; flags = flags_of e }

abbrev pub ServesAt : Option Export → List ℕ → List ℕ → End → Type 0
ServesAt None bytes text end = ⊥
ServesAt (Some e) bytes text end = Serves (terms_of e) (opened (terms_of e)) bytes text end

-- behind the handshake: the requests of the client that is in an export, or nothing
abbrev pub Continues : List Export → Entry → List ℕ → List ℕ → End → Type 0
Continues exports (entries.In n) bytes text end = ServesAt (slice_get exports n) bytes text end
Continues exports (entries.Out stop) bytes text end = (text ≡ []) × (end ≡ stop)
Continues exports entries.Refused bytes text end = ⊥

-- To these bytes of the client the server says this text, and so it ends: the handshake, in which a session is always
-- given, and then the requests.
pub record Talked (exports : List Export) (bytes text : List ℕ) (end : End) : Type 0 where
  pub entry : Entry
  pub rest : List ℕ
  pub first : List ℕ
  pub later : List ℕ
  pub shaken : Shaken IsGiven (map facts_of exports) bytes first entry rest
  pub said : text ≡ first ++ later
  pub continues : Continues exports entry rest later end

-- To these bytes the server says one text, and ends in one way.
abbrev pub OneConversation : List Export → Type 0
OneConversation exports = (bytes t u : List ℕ) (e f : End) → Talked exports bytes t e → Talked exports bytes u f → (t ≡ u) × (e ≡ f)

-- To any bytes the server says some text, and ends.
abbrev pub SomeConversation : List Export → Type 0
SomeConversation exports = (bytes : List ℕ) → AreBytes bytes → (text : List ℕ) × (end : End) × Talked exports bytes text end

-- The text to a beginning of the bytes is a beginning of the text to them.
abbrev pub BeginsAlike : List Export → Type 0
BeginsAlike exports = (bytes more t u : List ℕ) (e f : End) → Talked exports bytes t e → Talked exports (bytes ++ more) u f → (v : List ℕ) × (u ≡ t ++ v)
