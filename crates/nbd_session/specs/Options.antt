-- What a server says to the options that bytes spell, up to where haggling ends.
use Rattle.std.specs.Prelude.{◌≡◌, ℕ, ◌+◌, ◌<◌, ◌≤◌, ◌^◌, ◌⊎◌, Bool, Some, None, List, [], ◌++◌, length, take}
use Rattle.std.specs.List.{flat_map, AllByRecursion}
use Rattle.nbd_wire.specs.Grammar.{option_text}
use Rattle.nbd_options.specs.declared.answers.Next.{Next}
use Rattle.nbd_options.specs.declared.answers.Next.TheVariants as nexts
use Rattle.nbd_options.specs.declared.attach.Attached.{Attached}
use Rattle.nbd_options.specs.declared.attach.Attached.TheVariants as attached
use Rattle.nbd_options.specs.declared.haggle.HeadFault.{HeadFault}
use Rattle.nbd_options.specs.declared.haggle.HeadFault.TheVariants as faults
use Rattle.nbd_options.specs.declared.saying.HaggleEnd.{HaggleEnd}
use Rattle.nbd_options.specs.declared.saying.HaggleEnd.TheVariants as haggle_ends
use Rattle.nbd_options.specs.Exports.{ExportFacts}
use Rattle.nbd_options.specs.Replies.{next_after}
use Rattle.nbd_options.specs.Haggled.{Asked, said_to, ends_by, head_fault, told_length}
use Rattle.nbd_session.specs.declared.outcomes.End.{End}
use Rattle.nbd_session.specs.declared.outcomes.End.TheVariants as ends
use Rattle.nbd_session.specs.declared.outcomes.Entry.{Entry}
use Rattle.nbd_session.specs.declared.outcomes.Entry.TheVariants as entries

abbrev pub asked_text : Asked → List ℕ
asked_text a = option_text a.option.number a.option.content

-- the answer that attach gives for an export, where it is asked; where it isn't, Given stands in its place
abbrev pub MayAnswer : (ℕ → Attached → Type 0) → Next → Attached → Type 0
MayAnswer may (nexts.Go n) answer = may n answer
MayAnswer may (nexts.ByName n) answer = may n answer
MayAnswer may nexts.Again answer = answer ≡ attached.Given
MayAnswer may nexts.Abort answer = answer ≡ attached.Given
MayAnswer may nexts.Close answer = answer ≡ attached.Given

-- an option that has a spelling and isn't too long, with an answer that may be given
pub record IsAsked (may : ℕ → Attached → Type 0) (table : List ExportFacts) (a : Asked) : Type 0 where
  pub number : a.option.number < 2 ^ 32
  pub short : length a.option.content ≤ 65536
  pub answer : MayAnswer may (next_after table a.option) a.answer

-- haggling goes on behind it
pub record GoesOn (may : ℕ → Attached → Type 0) (table : List ExportFacts) (bare : Bool) (a : Asked) : Type 0 where
  pub asked : IsAsked may table a
  pub on : (said_to table bare a).end ≡ None

abbrev pub text_to : List ExportFacts → Bool → Asked → List ℕ
text_to table bare a = (said_to table bare a).text

abbrev pub fault_end : HeadFault → End
fault_end faults.BadMagic = ends.BadMagic
fault_end faults.TooMany = ends.TooMany
fault_end faults.TooLong = ends.TooLong

abbrev pub entry_after : HaggleEnd → Entry
entry_after (haggle_ends.Entered n) = entries.In n
entry_after haggle_ends.Refused = entries.Refused
entry_after haggle_ends.Aborted = entries.Out ends.Abort
entry_after haggle_ends.NoExport = entries.Out ends.NoExport
entry_after haggle_ends.BadFlags = entries.Out ends.BadFlags
entry_after (haggle_ends.BadHead fault) = entries.Out (fault_end fault)

-- a whole head stands at an option's place, and is refused
abbrev pub HeadStops : ℕ → List ℕ → HeadFault → Type 0
HeadStops seen bytes fault = (16 ≤ length bytes) × (head_fault seen (take 16 bytes) ≡ Some fault)

-- a whole head stands there that isn't refused, and less data behind it than it tells
abbrev pub EndsWithin : ℕ → List ℕ → Type 0
EndsWithin seen bytes = (16 ≤ length bytes) × (head_fault seen (take 16 bytes) ≡ None) × (length bytes < 16 + told_length (take 16 bytes))

-- the bytes from an option's place on, where no whole option to be answered stands there
abbrev pub OptionStops : ℕ → List ℕ → End → Type 0
OptionStops seen bytes ends.Over = bytes ≡ []
OptionStops seen bytes ends.Cut = (0 < length bytes) × ((length bytes < 16) ⊎ EndsWithin seen bytes)
OptionStops seen bytes ends.BadMagic = HeadStops seen bytes faults.BadMagic
OptionStops seen bytes ends.TooMany = HeadStops seen bytes faults.TooMany
OptionStops seen bytes ends.TooLong = HeadStops seen bytes faults.TooLong
OptionStops seen bytes end = ⊥

abbrev pub StopsAt : ℕ → List ℕ → Entry → Type 0
StopsAt seen bytes (entries.Out end) = OptionStops seen bytes end
StopsAt seen bytes (entries.In n) = ⊥
StopsAt seen bytes entries.Refused = ⊥

-- the option that ends haggling, and the bytes behind it
pub record Leaves (may : ℕ → Attached → Type 0) (table : List ExportFacts) (bare : Bool) (seen : ℕ) (bytes text : List ℕ) (entry : Entry) (rest : List ℕ) : Type 0 where
  pub last : Asked
  pub asked : IsAsked may table last
  pub few : seen < 1000
  pub spelled : bytes ≡ asked_text last ++ rest
  pub end : HaggleEnd
  pub said : said_to table bare last ≡ ends_by text end
  pub is : entry ≡ entry_after end

-- To these bytes this text is said, haggling ends so, and the rest are left: the bytes spell options behind each of
-- which haggling goes on, and then stands what ends it. So many options came before.
pub record Haggles (may : ℕ → Attached → Type 0) (table : List ExportFacts) (bare : Bool) (seen : ℕ) (bytes text : List ℕ) (entry : Entry) (rest : List ℕ) : Type 0 where
  pub options : List Asked
  pub behind : List ℕ
  pub later : List ℕ
  pub spelled : bytes ≡ flat_map asked_text options ++ behind
  pub said : text ≡ flat_map (text_to table bare) options ++ later
  pub each : AllByRecursion (GoesOn may table bare) options
  pub few : seen + length options ≤ 1000
  pub ends : ((later ≡ []) × (rest ≡ behind) × StopsAt (seen + length options) behind entry)
      ⊎ Leaves may table bare (seen + length options) behind later entry rest
