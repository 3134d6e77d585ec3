-- The lines of a body of `replay`: what the fields behind an event's name say, and what all lines ask for.
use Rattle.std.specs.Prelude.{◌≡◌, ℕ, ◌+◌, ◌^◌, ◌==◌, Bool, ◌&&◌, nat_lt, nat_le, if◌then◌else◌, List, [], ◌∷◌, ◌++◌, length, Option, Some, None, ok_or, option_map, Result, Ok, Err}
use Rattle.nbd_base.specs.Words.{when_some}
use Rattle.nbd_commands.specs.Refusals.{rates_told}
use Rattle.nbd_commands.specs.declared.settings.ConfigError.{ConfigError}
use Rattle.hex.specs.Hex.{decode_of}
use Rattle.hex.specs.declared.FromHexError.{FromHexError}
use Rattle.nbd_wire.specs.Grammar.{RequestMessage}
use Rattle.nbd_wire.specs.declared.requests.RequestHead.{RequestHead}
use Rattle.tag_clock.specs.Intervals.{Intervals}
use Rattle.server_table.specs.declared.event.Event.{Event}
use Rattle.server_table.specs.declared.event.Event.TheVariants as event
use Rattle.nbd_scripts.specs.declared.replay_line.ReplayLine.{ReplayLine}
use Rattle.nbd_scripts.specs.declared.replay_line.ReplayLine.TheVariants as asked
use Rattle.nbd_scripts.specs.declared.verbs.Verb.{Verb}
use Rattle.nbd_scripts.specs.declared.verbs.Verb.TheVariants as verbs
use Rattle.nbd_text.specs.Numbers.{number_below}
use Rattle.nbd_text.specs.Fields.{fields_in}
use Rattle.nbd_scripts.specs.declared.fault.LineFault.{LineFault}
use Rattle.nbd_scripts.specs.declared.fault.LineFault.TheVariants.{Form}
use Rattle.nbd_scripts.specs.Faults.{fault_of}
use Rattle.nbd_scripts.specs.Lines.{is_comment, lines_in, only}
use Rattle.nbd_scripts.specs.Steps.{◌>>=◌}
use Rattle.nbd_scripts.specs.Verbs.{verb_of}

-- an export, and a number of it, and no more
abbrev pub pair_of : List (List ℕ) → Option (ℕ × ℕ)
pair_of [] = None
pair_of (export ∷ []) = None
pair_of (export ∷ number ∷ []) = do
  e ← number_below (2 ^ 32) export
  n ← number_below (2 ^ 64) number
  Some (e, n)
pair_of (export ∷ number ∷ next ∷ more) = None

-- an export, a reservation, a limit and a weight, and no more
abbrev pub rates_in : List (List ℕ) → Option (ℕ × ℕ × ℕ × ℕ)
rates_in [] = None
rates_in (export ∷ []) = None
rates_in (export ∷ reservation ∷ []) = None
rates_in (export ∷ reservation ∷ limit ∷ []) = None
rates_in (export ∷ reservation ∷ limit ∷ weight ∷ []) = do
  e ← number_below (2 ^ 32) export
  r ← number_below (2 ^ 64) reservation
  l ← number_below (2 ^ 64) limit
  w ← number_below (2 ^ 64) weight
  Some (e, r, l, w)
rates_in (export ∷ reservation ∷ limit ∷ weight ∷ next ∷ more) = None

-- a request of this type and length brings a payload
abbrev pub brings_payload : RequestHead → Bool
brings_payload head = head.kind == 1 && nat_lt 0 head.length

-- bytes that are as many as is said
abbrev pub sized : ℕ → Result (List ℕ) FromHexError → Option (List ℕ)
sized count (Ok bytes) = if length bytes == count then Some bytes else None
sized count (Err error) = None

-- the payload in the fields behind a request's length: hex exactly where the request brings one
abbrev pub payload_of : RequestHead → List (List ℕ) → Option (List ℕ)
payload_of head [] = if brings_payload head then None else Some []
payload_of head (digits ∷ []) = if brings_payload head && nat_le head.length 33554432 then sized head.length (decode_of digits) else None
payload_of head (digits ∷ next ∷ more) = None

-- `COOKIE KIND FLAGS OFFSET LENGTH`
unfoldable pub head_read : List ℕ → List ℕ → List ℕ → List ℕ → List ℕ → Option RequestHead
head_read cookie kind flags offset count = do
  f ← number_below (2 ^ 16) flags
  k ← number_below (2 ^ 16) kind
  c ← number_below (2 ^ 64) cookie
  o ← number_below (2 ^ 64) offset
  l ← number_below (2 ^ 32) count
  Some (record { flags = f; kind = k; cookie = c; offset = o; length = l })

-- the same, and the payload
unfoldable pub request_of : List (List ℕ) → Option RequestMessage
request_of (cookie ∷ kind ∷ flags ∷ offset ∷ count ∷ payload) = do
  head ← head_read cookie kind flags offset count
  bytes ← payload_of head payload
  Some (record { head = head; payload = bytes })
request_of fields = None

-- an export alone
abbrev pub export_of : List (List ℕ) → Option ℕ
export_of fields = only fields >>= number_below (2 ^ 32)

-- a moment alone
abbrev pub moment_of : List (List ℕ) → Option ℕ
moment_of fields = only fields >>= number_below (2 ^ 62)

module _ {A : Type 0} where
  -- `E S T`, and a request
  unfoldable pub arrival_of : List (List ℕ) → Option (Event A)
  arrival_of (export ∷ session ∷ moment ∷ fields) = do
    e ← number_below (2 ^ 32) export
    s ← number_below (2 ^ 64) session
    t ← number_below (2 ^ 62) moment
    request ← request_of fields
    Some (event.Arrive e s t request)
  arrival_of fields = None

  -- a retune of an export, unless the rates are refused
  abbrev pub retuned : ℕ → Result Intervals ConfigError → Result (Event A) LineFault
  retuned export (Ok rates) = Ok (event.Retune export rates)
  retuned export (Err error) = Err (fault_of error)

  -- the same, by its fields
  abbrev pub retuned_by : Result (ℕ × ℕ × ℕ × ℕ) LineFault → Result (Event A) LineFault
  retuned_by (Ok (export, reservation, limit, weight)) = retuned export (rates_told reservation limit weight)
  retuned_by (Err fault) = Err fault

  -- `E R L W`
  abbrev pub retune_of : List (List ℕ) → Result (Event A) LineFault
  retune_of fields = retuned_by (ok_or (rates_in fields) Form)

  -- the event of a verb, with these fields behind it, or why there is none
  unfoldable pub event_of : Verb → List (List ℕ) → Result (Event A) LineFault
  event_of verbs.Attach fields = ok_or (option_map event.Attach (export_of fields)) Form
  event_of verbs.Arrive fields = ok_or (arrival_of fields) Form
  event_of verbs.Dispatch fields = ok_or (option_map event.Dispatch (moment_of fields)) Form
  event_of verbs.Perform fields = ok_or (option_map (λ pair. event.Perform pair.0 pair.1) (pair_of fields)) Form
  event_of verbs.Take fields = ok_or (option_map (λ pair. event.Take pair.0 pair.1) (pair_of fields)) Form
  event_of verbs.Leave fields = ok_or (option_map (λ pair. event.Leave pair.0 pair.1) (pair_of fields)) Form
  event_of verbs.Gone fields = ok_or (option_map (λ pair. event.Gone pair.0 pair.1) (pair_of fields)) Form
  event_of verbs.Retune fields = retune_of fields
  event_of verbs.Tags fields = Err Form

  -- an event, as what a line asks for
  abbrev pub asked_event : Result (Event A) LineFault → Result (ReplayLine A) LineFault
  asked_event (Ok event) = Ok (asked.Event event)
  asked_event (Err fault) = Err fault

  -- what a line asks for by its verb and the fields behind it
  abbrev pub asked_by : Verb → List (List ℕ) → Result (ReplayLine A) LineFault
  asked_by verbs.Tags fields = ok_or (option_map asked.Tags (export_of fields)) Form
  asked_by verb fields = asked_event (event_of verb fields)

  -- one line, as a list
  abbrev pub asked_one : Result (ReplayLine A) LineFault → Result (List (ReplayLine A)) LineFault
  asked_one (Ok line) = Ok (line ∷ [])
  asked_one (Err fault) = Err fault

  -- what fields ask for: nothing where there are none
  abbrev pub asked_in : List (List ℕ) → Result (List (ReplayLine A)) LineFault
  asked_in [] = Ok []
  asked_in (name ∷ fields) = when_some (verb_of name) (λ verb. asked_one (asked_by verb fields)) (Err Form)

  -- what a line asks for, or why it is refused
  unfoldable pub line_asks : List ℕ → Result (List (ReplayLine A)) LineFault
  line_asks line = if is_comment line then Ok [] else asked_in (fields_in line)

  -- a line was taken: what it asks for comes behind the rest
  pub record Takes (line : List ℕ) (old new : List (ReplayLine A)) : Type 0 where
    pub these : List (ReplayLine A)
    pub asks : line_asks line ≡ Ok these
    pub taken : new ≡ old ++ these

  -- what lines ask for, in order
  pub data Asks : List (List ℕ) → List (ReplayLine A) → Type 0 where
    nothing : Asks [] []
    behind_line : (lines : List (List ℕ)) (line : List ℕ) (asked these : List (ReplayLine A)) → Asks lines asked → line_asks line ≡ Ok these → Asks (lines ++ line ∷ []) (asked ++ these)

-- the line of this number is refused for this, and those between it and the lines above aren't
pub record MissesLine (A : Type 0) (above : ℕ) (text : List ℕ) (number : ℕ) (fault : LineFault) : Type 0 where
  pub lines : List (List ℕ)
  pub line : List ℕ
  pub more : List (List ℕ)
  pub asked : List (ReplayLine A)
  pub are : lines_in text ≡ lines ++ line ∷ more
  pub asks : Asks lines asked
  pub missed : line_asks {A = A} line ≡ Err fault
  pub counted : number ≡ above + length lines + 1
