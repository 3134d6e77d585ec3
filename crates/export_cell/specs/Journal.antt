-- An export kept twice: as it is, and as it was before its latest steps, with the log of these.
use Rattle.std.specs.Prelude.{◌≡◌, ℕ, ◌+◌, ◌<◌, ◌≤◌, ◌&&◌, Bool, nat_lt, nat_le, List, [], ◌∷◌, ◌++◌, map, length, take, drop, Option, Some, None, Result, Ok, Err, if◌then◌else◌, true}
use Rattle.nbd_wire.specs.Grammar.{RequestMessage}
use Rattle.nbd_commands.specs.Terms.{Terms}
use Rattle.lone_export.specs.Alone.{Alone, own_step, alone, opening}
use Rattle.lone_export.specs.Calls.{is_counted, to_come}
use Rattle.lone_export.specs.Lone.{Whole, MayArrive, IsAdmission, opening_of, step_answer_of_refusal, step_answer_of_retune, step_answer_of_arrive as arrived_said_alone}
use Rattle.lone_export.specs.declared.refusal.Arrived.{Arrived}
use Rattle.lone_export.specs.declared.step.Step.{Step}
use Rattle.lone_export.specs.declared.step.Step.TheVariants.{Attach, Arrive, Pick, Perform, Take, Leave, Gone, Retune}
use Rattle.lone_export.specs.declared.step.StepAnswer.{StepAnswer}
use Rattle.step_log.specs.Steps.{KeptStep, kept_step, payload_of, payload_in}
use Rattle.export_cell.specs.declared.refusal.ArriveFault.{ArriveFault}
use Rattle.export_cell.specs.declared.refusal.ArriveFault.TheVariants.{Refused, NoMemory}
use Rattle.export_cell.specs.declared.refusal.NotArrived.{NotArrived}
use Rattle.export_cell.specs.declared.place.Place.{Place}
use Rattle.export_cell.specs.declared.refusal.NotRetuned.{NotRetuned}
use Rattle.export_cell.specs.declared.refusal.NotRetuned.TheVariants as retuning

-- the export as it was, and the steps since, oldest first
pub record Journal : Type 0 where
  pub base : Alone
  pub log : List KeptStep

-- the export as it is, its journal, and how many steps its log has room for
pub record Cell : Type 0 where
  pub live : Whole
  pub journal : Journal
  pub room : ℕ

-- before the first step
abbrev pub opening_journal : Terms → Journal
opening_journal terms = record { base = opening terms; log = [] }

abbrev pub opening_cell : Terms → ℕ → Cell
opening_cell terms inflight = record { live = opening_of terms inflight; journal = opening_journal terms; room = 0 }

-- ---- what a journal is

-- a step that may stand in a log after that state: it is counted there, and a pick finds fewer out than may be
pub record IsLogged (terms : Terms) (inflight : ℕ) (state : Alone) (step : KeptStep) : Type 0 where
  pub counted : is_counted (own_step terms state step).answer ≡ true
  pub fit : step ≡ Pick → length state.out < inflight

abbrev pub IsLog : Terms → ℕ → Alone → List KeptStep → Type 0
IsLog terms inflight base [] = Unit {0}
IsLog terms inflight base (step ∷ log) = IsLogged terms inflight base step × IsLog terms inflight (own_step terms base step).state log

-- the export as it is comes of its base by the steps of the log
pub record IsJournal (live : Whole) (journal : Journal) : Type 0 where
  pub same : live.state ≡ alone live.terms journal.base journal.log
  pub each : IsLog live.terms live.inflight journal.base journal.log
  pub counts : journal.base.count + length journal.log ≡ live.state.count

-- ---- how long a log may be

-- at most 64 MiB of payload
abbrev pub IsWithinBytes : List KeptStep → Type 0
IsWithinBytes log = payload_in log ≤ 67108864

-- fewer than 4,096 steps, and with so many bytes more at most 64 MiB of payload
abbrev pub fits : ℕ → List KeptStep → Bool
fits bytes log = nat_lt (length log) 4096 && nat_le (payload_in log + bytes) 67108864

-- how many of the oldest steps have to go, so that what is left fits: the least number
abbrev pub surplus : ℕ → List KeptStep → ℕ
surplus bytes [] = 0
surplus bytes (step ∷ log) = if fits bytes (step ∷ log) then 0 else surplus bytes log + 1

-- the same before a step: an attach, an arrival and a retune want room, other steps have theirs
abbrev pub surplus_before : KeptStep → List KeptStep → ℕ
surplus_before Attach log = surplus 0 log
surplus_before (Arrive s t q) log = surplus (length q.payload) log
surplus_before Pick log = 0
surplus_before (Perform n memory) log = 0
surplus_before (Take s) log = 0
surplus_before (Leave s) log = 0
surplus_before (Gone s) log = 0
surplus_before (Retune rates) log = surplus 0 log

-- ---- how it moves

-- the n oldest steps went into the base
abbrev pub advanced : Terms → ℕ → Journal → Journal
advanced terms n journal = record { base = alone terms journal.base (take n journal.log); log = drop n journal.log }

-- a step stands at the end of the log
abbrev pub noted : KeptStep → Journal → Journal
noted step journal = record { base = journal.base; log = journal.log ++ step ∷ [] }

-- some of the oldest steps went into the base, no more than most
pub record IsAdvanced (terms : Terms) (most : ℕ) (old new : Journal) : Type 0 where
  pub gone : ℕ
  pub few : gone ≤ most
  pub moved : new ≡ advanced terms gone old

-- a step that is counted goes into the log, once as many of the oldest went into the base as have to; any other leaves
-- the journal. Without memory for the step some of these went, and it isn't in the log
abbrev pub JournalMove : {A : Type 0} → Terms → Step A → Option (StepAnswer A) → Journal → Journal → Type 0
JournalMove terms step None old new = IsAdvanced terms (surplus_before (kept_step step) old.log) old new
JournalMove terms step (Some answer) old new =
    new ≡ (if is_counted answer then noted (kept_step step) (advanced terms (surplus_before (kept_step step) old.log) old) else old)

-- ---- room for a request

-- for so many bytes of payload, and for the four steps at most that an attach or an arrival brings
pub record HasRoom (bytes : ℕ) (cell : Cell) : Type 0 where
  pub few : payload_in cell.journal.log + bytes ≤ 67108864
  pub room : length cell.journal.log + to_come cell.live.state + 4 ≤ cell.room

-- a request of session s has this place: what becomes of it is told, there is room for it, and a copy of it will be kept
pub record IsReserved {A : Type 0} (cell : Cell) (s : ℕ) (q : RequestMessage) (place : Place A) : Type 0 where
  pub admitted : IsAdmission A cell.live s q (Ok place.admission)
  pub same : place.kept ≡ q
  pub room : HasRoom (length q.payload) cell

-- it has none: it is refused, and nothing changed; or memory was wanted, and some of the steps went that had to
abbrev pub IsTurnedAway : Cell → Cell → ℕ → RequestMessage → ArriveFault → Type 0
IsTurnedAway old new s q (Refused e) = MayArrive old.live s (Err e) × (new ≡ old)
IsTurnedAway old new s q NoMemory =
    MayArrive old.live s (Ok tt) × IsAdvanced old.live.terms (surplus (length q.payload) old.journal.log) old.journal new.journal

-- ---- what an arrival is answered, none where memory was wanted
abbrev pub step_answer_of_fault : {A : Type 0} → ArriveFault → Option (StepAnswer A)
step_answer_of_fault (Refused refusal) = Some (step_answer_of_refusal refusal)
step_answer_of_fault NoMemory = None

abbrev pub step_answer_of_arrive : {A : Type 0} → Result Arrived (NotArrived A) → Option (StepAnswer A)
step_answer_of_arrive (Ok arrived) = Some (arrived_said_alone (Ok arrived))
step_answer_of_arrive (Err e) = step_answer_of_fault e.fault

-- and a retune
abbrev pub step_answer_of_retuned : {A : Type 0} → Result (Unit {0}) NotRetuned → Option (StepAnswer A)
step_answer_of_retuned (Ok done) = Some (step_answer_of_retune (Ok done))
step_answer_of_retuned (Err (retuning.Refused refusal)) = Some (step_answer_of_retune (Err refusal))
step_answer_of_retuned (Err retuning.NoMemory) = None

-- ---- as it is kept
abbrev pub cell_of : Whole → Whole → List KeptStep → ℕ → Cell
cell_of live base log room = record { live = live; journal = record { base = base.state; log = log }; room = room }

-- the two exports are of one kind, and the log has room for all the steps that can come
pub record IsCell (live base : Whole) (log : List KeptStep) (bytes room : ℕ) : Type 0 where
  pub journal : IsJournal live (record { base = base.state; log = log })
  pub terms : base.terms ≡ live.terms
  pub inflight : base.inflight ≡ live.inflight
  pub payload : bytes ≡ payload_in log
  pub few : bytes ≤ 67108864
  pub wide : length log + to_come live.state ≤ room

-- ---- how it is trimmed

-- the n oldest steps went into the base
pub record HasAdvanced (n : ℕ) (old new : Cell) : Type 0 where
  pub live : new.live ≡ old.live
  pub journal : new.journal ≡ advanced old.live.terms n old.journal

-- as many did as have to
abbrev pub IsTrimmed : ℕ → Cell → Cell → Type 0
IsTrimmed bytes old new = HasAdvanced (surplus bytes old.journal.log) old new

-- some of them did, and those that still have to are the rest
pub record IsTrimming (bytes : ℕ) (old new : Cell) : Type 0 where
  pub gone : ℕ
  pub left : gone + surplus bytes new.journal.log ≡ surplus bytes old.journal.log
  pub moved : HasAdvanced gone old new
