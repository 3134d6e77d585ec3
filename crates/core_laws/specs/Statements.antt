-- What the laws say, of one run or of one step.
use Rattle.std.specs.Prelude.{◌≡◌, ◌≢◌, ◌↔◌, ◌<◌, ◌≤◌, ◌+◌, ◌-◌, ◌/◌, ◌^◌, max, ℕ, Bool, true, List, [], length, filter, take, drop, slice_get, Some, ℤ, pos, ◌≤ℤ◌, false}
use Rattle.std.specs.List.{AllByRecursion}
use Rattle.nbd_wire.specs.Grammar.{RequestMessage}
use Rattle.nbd_commands.specs.Terms.{Terms}
use Rattle.nbd_commands.specs.Verdict.{verdict_of}
use Rattle.tag_clock.specs.declared.Phase.{Phase}
use Rattle.tag_clock.specs.declared.Phase.TheVariants.{Reservation, Weight}
use Rattle.tag_clock.specs.LimitTags.{Arrival, limit_tags}
use Rattle.reply_box.specs.Sessions.{is_open_at}
use Rattle.lone_export.specs.Alone.{opening, alone, answers_alone}
use Rattle.lone_export.specs.LimitTags.{given_tags, accepted_arrivals}
use Rattle.server_table.specs.declared.event.Event.{Event}
use Rattle.server_table.specs.declared.event.Event.TheVariants.{Arrive, Dispatch}
use Rattle.server_table.specs.declared.event.Answer.{Answer}
use Rattle.server_table.specs.declared.event.Answer.TheVariants.{Answered, Picked, Nothing, NoMemory}
use Rattle.server_table.specs.Table.{Row, Table, Setup, part, side, waits_in, choice, choice_with}
use Rattle.server_table.specs.Steps.{step, outstanding_in, last_table}
use Rattle.server_table.specs.Shares.{own, told, named, is_made}
use Rattle.core_laws.specs.Runs.{Run, answers_in, table_in, own_steps, told_answers, last_part, HasExport}
use Rattle.core_laws.specs.Counts.{choices, first_accepted, is_retune_of}
use Rattle.core_laws.specs.Heads.{first_rows}
use Rattle.core_laws.specs.Made.{made_events, made_marks}

-- ---- of a table

-- nothing but the depth of its queue refuses an arrival of session s to export e
pub record PassesAllElse (setup : Setup) (table : Table) (e s : ℕ) (q : RequestMessage) (terms : Terms) : Type 0 where
  pub there : slice_get setup.exports e ≡ Some terms
  pub is_open : is_open_at (side table e).sessions s ≡ true
  pub young : (side table e).count < 2 ^ 56
  pub spare : outstanding_in e s table ≢ terms.window
  pub fine : verdict_of terms q ≡ 0

-- as many requests of export e wait as its depth
abbrev pub HasFullQueue : Table → ℕ → Terms → Type 0
HasFullQueue table e terms = length (filter (waits_in e) table.rows) ≡ terms.depth

-- request n of export e waits, and at a dispatch at t its limit tag isn't above the greatest moment of a dispatch
abbrev pub WaitsInItsLimit : Table → ℕ → ℕ → ℕ → Type 0
WaitsInItsLimit table t e n = (k : ℕ) × (row : Row) × (slice_get table.rows k ≡ Some row) × (row.export ≡ e) × (row.number ≡ n) × (row.out ≡ false) ×
    (row.l ≤ℤ pos (max table.now t))

-- a request waits whose R tag isn't above that moment
abbrev pub IsReservationDue : Table → ℕ → Type 0
IsReservationDue table t = (k : ℕ) × (row : Row) × (r : ℤ) × (slice_get table.rows k ≡ Some row) × (row.out ≡ false) × (row.r ≡ Some r) × (r ≤ℤ pos (max table.now t))

module _ {A : Type 0} where
  -- ---- a run, by its events and the answers that were given to them

  -- each export is told what it is told alone, under its own steps
  abbrev pub IsToldAsAlone : Setup → List (Event A) → List (Answer A) → Type 0
  IsToldAsAlone setup events answers = (e : ℕ) (terms : Terms) → slice_get setup.exports e ≡ Some terms →
      told e events answers ≡ answers_alone terms (opening terms) (own e events answers)

  -- and is in the last table what it is alone: its bytes, outboxes, sessions, requests, last limit tag and count
  abbrev pub EndsAsAlone : Setup → List (Event A) → List (Answer A) → Table → Type 0
  EndsAsAlone setup events answers table = (e : ℕ) (terms : Terms) → slice_get setup.exports e ≡ Some terms →
      part e table ≡ alone terms (opening terms) (own e events answers)

  -- an export's accepted arrivals, each with the interval of the limit that was in force then
  abbrev pub arrivals_of : ℕ → Terms → List (Event A) → List (Answer A) → List Arrival
  arrivals_of e terms events answers = accepted_arrivals terms.rates.l_interval (own e events answers) (told e events answers)

  -- its limit tags are those of these
  abbrev pub HasUnrolledTags : Setup → List (Event A) → List (Answer A) → Type 0
  HasUnrolledTags setup events answers = (e : ℕ) (terms : Terms) → slice_get setup.exports e ≡ Some terms →
      given_tags (told e events answers) ≡ limit_tags (arrivals_of e terms events answers)

  -- of an export's requests none is chosen by weight while the greatest moment of a dispatch is below its first accepted
  -- arrival, and none by reservation where no retune named it
  abbrev pub ChoosesNoneBefore : Setup → List (Event A) → List (Answer A) → Type 0
  ChoosesNoneBefore setup events answers = (e : ℕ) (terms : Terms) (t b : ℕ) (phase : Phase) → slice_get setup.exports e ≡ Some terms →
      (phase ≡ Reservation → filter (is_retune_of e) events ≡ []) →
      first_accepted e events answers ≡ Some t → b < t → choices e phase b 0 events answers ≡ 0

  -- and later no more by weight than its limit allows: m is at most each interval of it that was in force at an accepted
  -- arrival behind the first
  abbrev pub ChoosesByLimit : Setup → List (Event A) → List (Answer A) → Type 0
  ChoosesByLimit setup events answers = (e : ℕ) (terms : Terms) (t b m : ℕ) → slice_get setup.exports e ≡ Some terms →
      first_accepted e events answers ≡ Some t → t ≤ b → 0 < m → AllByRecursion (λ one. m ≤ one.interval) (drop 1 (arrivals_of e terms events answers)) →
      choices e Weight b 0 events answers ≤ 1 + (b - t) / m

  -- nor by reservation than its reservation gives, where no retune named it
  abbrev pub ChoosesByReservation : Setup → List (Event A) → List (Answer A) → Type 0
  ChoosesByReservation setup events answers = (e : ℕ) (terms : Terms) (t b interval : ℕ) → slice_get setup.exports e ≡ Some terms →
      filter (is_retune_of e) events ≡ [] →
      first_accepted e events answers ≡ Some t → t ≤ b → terms.rates.r_interval ≡ Some interval → 0 < interval →
      choices e Reservation b 0 events answers ≤ 1 + (b - t) / interval

  -- at place k of the run stand this event and its answer
  abbrev pub StandsAt : ℕ → List (Event A) → List (Answer A) → Event A → Answer A → Type 0
  StandsAt k events answers event said = (slice_get events k ≡ Some event) × (slice_get answers k ≡ Some said)

  -- the table before place k
  abbrev pub table_before : ℕ → Setup → List (Event A) → List Bool → Table
  table_before k setup events marks = last_table setup (take k events) marks

  -- an arrival that nothing else refuses is answered 5 (EIO) exactly where as many requests of its own export wait as its
  -- depth
  abbrev pub QueuesCountTheirOwn : Setup → List (Event A) → List (Answer A) → List Bool → Type 0
  QueuesCountTheirOwn setup events answers marks = (k e s t : ℕ) (q : RequestMessage) (terms : Terms) (said : Answer A) →
      StandsAt k events answers (Arrive e s t q) said → said ≢ NoMemory → PassesAllElse setup (table_before k setup events marks) e s q terms →
      (said ≡ Answered 5) ↔ HasFullQueue (table_before k setup events marks) e terms

  -- a choice by weight is of a request whose limit tag isn't above the greatest moment of a dispatch, its own included
  abbrev pub WeightsWait : Setup → List (Event A) → List (Answer A) → List Bool → Type 0
  WeightsWait setup events answers marks = (k t e n : ℕ) → StandsAt k events answers (Dispatch t) (Picked e n Weight) →
      WaitsInItsLimit (table_before k setup events marks) t e n

  -- a dispatch that chooses while a reservation is due chooses by reservation
  abbrev pub ReservationsBeforeWeights : Setup → List (Event A) → List (Answer A) → List Bool → Type 0
  ReservationsBeforeWeights setup events answers marks = (k t e n : ℕ) (phase : Phase) → StandsAt k events answers (Dispatch t) (Picked e n phase) →
      IsReservationDue (table_before k setup events marks) t → phase ≡ Reservation

  -- ---- two runs

  -- two runs agree at e: it has the same terms in both, and the same own steps. The number of exports, the terms of the
  -- others, how many requests may be out and all other events may differ
  pub record AgreeAt (e : ℕ) (terms : Terms) (one two : Run A) : Type 0 where
    pub there : HasExport one e terms
    pub there_too : HasExport two e terms
    pub steps : own_steps e one ≡ own_steps e two

  -- where two runs agree at an export, it is told the same in both
  abbrev pub IsToldTheSame : Run A → Run A → Type 0
  IsToldTheSame one two = (e : ℕ) (terms : Terms) → AgreeAt e terms one two → told_answers e one ≡ told_answers e two

  -- and is the same in the end
  abbrev pub EndsTheSame : Run A → Run A → Type 0
  EndsTheSame one two = (e : ℕ) (terms : Terms) → AgreeAt e terms one two → last_part e one ≡ last_part e two

  -- ---- one run, by its marks

  -- in the last table, whatever the moment, the choice is that among the first waiting row of each export, with as many out
  abbrev pub HeadsSuffice : Run A → Type 0
  HeadsSuffice run = (table : Table) (now : ℕ) → table ≡ table_in run →
      choice run.setup.inflight (record table { now = now }) ≡
      choice_with run.setup.inflight (length (filter (λ row. row.out) table.rows)) (record table { now = now; rows = first_rows (length run.setup.exports) table.rows })

  -- without the events that found no memory, and their marks
  abbrev pub without_failures : Run A → Run A
  without_failures run = record {
    setup = run.setup;
    events = made_events run.events (answers_in run);
    marks = made_marks (answers_in run) run.marks;
  }

  -- every other answer stays, and the last table
  abbrev pub KeepsOtherAnswers : Run A → Type 0
  KeepsOtherAnswers run = answers_in (without_failures run) ≡ filter is_made (answers_in run)

  abbrev pub KeepsLastTable : Run A → Type 0
  KeepsLastTable run = table_in (without_failures run) ≡ table_in run

  -- ---- one step, of any table

  -- it leaves the part of each export but the one that it names
  abbrev pub LeavesOthers : Setup → Table → Event A → Bool → Type 0
  LeavesOthers setup table event memory = (e f : ℕ) → named event ≡ Some f → e ≢ f → part e (step setup table event memory).table ≡ part e table

-- a dispatch leaves the part of each export but the one that it chose
abbrev pub LeavesUnchosen : Type 0 → Setup → Table → ℕ → Bool → Type 0
LeavesUnchosen A setup table t memory = (e f n : ℕ) (phase : Phase) →
    (step {A = A} setup table (Dispatch t) memory).answer ≡ Picked f n phase → e ≢ f → part e (step {A = A} setup table (Dispatch t) memory).table ≡ part e table

-- and all parts where it chose none
abbrev pub LeavesAll : Type 0 → Setup → Table → ℕ → Bool → Type 0
LeavesAll A setup table t memory = (e : ℕ) →
    (step {A = A} setup table (Dispatch t) memory).answer ≡ Nothing → part e (step {A = A} setup table (Dispatch t) memory).table ≡ part e table

-- an arrival that nothing else refuses is answered 5 (EIO) exactly where as many requests of its own export wait as its
-- depth
abbrev pub QueueCountsItsOwn : Type 0 → Setup → Table → Type 0
QueueCountsItsOwn A setup table = (e s t : ℕ) (q : RequestMessage) (terms : Terms) → PassesAllElse setup table e s q terms →
    ((step {A = A} setup table (Arrive e s t q) true).answer ≡ Answered 5) ↔ HasFullQueue table e terms

-- a choice by weight is of a row that waits and whose limit tag isn't above the greatest moment of a dispatch
abbrev pub WeightWaitsForItsLimit : Type 0 → Setup → Table → ℕ → Bool → Type 0
WeightWaitsForItsLimit A setup table t memory = (e n : ℕ) →
    (step {A = A} setup table (Dispatch t) memory).answer ≡ Picked e n Weight → WaitsInItsLimit table t e n

-- a dispatch that chooses while a reservation is due chooses by reservation
abbrev pub ReservationBeforeWeight : Type 0 → Setup → Table → ℕ → Bool → Type 0
ReservationBeforeWeight A setup table t memory = (e n : ℕ) (phase : Phase) →
    (step {A = A} setup table (Dispatch t) memory).answer ≡ Picked e n phase → IsReservationDue table t → phase ≡ Reservation
