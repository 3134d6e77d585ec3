-- Runs that were worked out by hand, for the definitions to give.
use Rattle.std.specs.Prelude.{◌≡◌, ℕ, zero, suc, true, false, ◌++◌, List, [], ◌∷◌, map, filter, replicate, Option, Some, None, ℤ, pos}
use Rattle.nbd_wire.specs.Grammar.{RequestMessage}
use Rattle.nbd_commands.specs.Terms.{Terms}
use Rattle.tag_clock.specs.Intervals.{intervals_of}
use Rattle.tag_clock.specs.declared.Phase.TheVariants.{Reservation, Weight}
use Rattle.lone_export.specs.declared.step.StepAnswer.TheVariants as alone
use Rattle.server_table.specs.declared.event.Event.{Event}
use Rattle.server_table.specs.declared.event.Event.TheVariants.{Attach, Arrive, Dispatch, Perform, Take, Leave, Gone, Retune}
use Rattle.server_table.specs.declared.event.Answer.{Answer}
use Rattle.server_table.specs.declared.event.Answer.TheVariants as said
use Rattle.server_table.specs.Table.{Setup, side, waits_in}
use Rattle.server_table.specs.Steps.{last_table, run_answers}
use Rattle.server_table.specs.Shares.{told}

-- an export of 4 bytes by its reservation, limit and weight, which are requests a second, its depth and its window
abbrev pub export_with : ℕ → ℕ → ℕ → ℕ → ℕ → Terms
export_with r l w depth window = record { size = 4; read_only = false; depth = depth; window = window; rates = intervals_of r l w }

-- by its rates alone
abbrev pub export_of : ℕ → ℕ → ℕ → Terms
export_of r l w = export_with r l w 1024 256

-- so many requests may be out
abbrev pub server : ℕ → List Terms → Setup
server inflight exports = record { exports = exports; inflight = inflight }

-- of these exports, with 32 out
abbrev pub server_of : List Terms → Setup
server_of exports = server 32 exports

-- a READ and a WRITE from the first byte on
abbrev pub reading : ℕ → ℕ → RequestMessage
reading cookie length = record { head = record { flags = 0; kind = 0; cookie = cookie; offset = 0; length = length }; payload = [] }

abbrev pub flushing : ℕ → RequestMessage
flushing cookie = record { head = record { flags = 0; kind = 3; cookie = cookie; offset = 0; length = 0 }; payload = [] }

-- a request of no known type
abbrev pub unknown : ℕ → RequestMessage
unknown cookie = record { head = record { flags = 0; kind = 7; cookie = cookie; offset = 0; length = 0 }; payload = [] }

abbrev pub writing : ℕ → ℕ → List ℕ → RequestMessage
writing cookie length bytes = record { head = record { flags = 0; kind = 1; cookie = cookie; offset = 0; length = length }; payload = bytes }

-- a waiting request as it is told: its number and its R, L and P tags
abbrev pub Told : Type 0
Told = ℕ × Option ℤ × ℤ × ℤ

module _ {A : Type 0} where
  -- a READ of no bytes with cookie 3 arrives in session 0 of export e at t
  abbrev pub read_at : ℕ → ℕ → Event A
  read_at e t = Arrive e 0 t (reading 3 0)

  -- with memory there at every step: the answers; the tags of an export's waiting requests; the last P tag of each
  -- export; how many steps changed something of an export
  abbrev pub answers_to : Setup → List (Event A) → List (Answer A)
  answers_to setup events = run_answers setup events []

  abbrev pub tags_in : ℕ → Setup → List (Event A) → List Told
  tags_in e setup events = map (λ row. (row.number, row.r, row.l, row.p)) (filter (waits_in e) (last_table setup events []).rows)

  abbrev pub last_p_tags : Setup → List (Event A) → List (Option ℤ)
  last_p_tags setup events = map (λ side. side.last_p) (last_table setup events []).sides

  abbrev pub counted_in : ℕ → Setup → List (Event A) → ℕ
  counted_in e setup events = (side (last_table setup events []) e).count

module _ (A : Type 0) where
  -- a request of twice the weight comes first, and then the older of equal tags
  abbrev pub GreaterWeightGoesSooner : Type 0
  GreaterWeightGoesSooner =
      answers_to {A = A} (server_of (export_of 0 0 1 ∷ export_of 0 0 2 ∷ []))
      (Attach 0 ∷ Attach 1 ∷ read_at 0 0 ∷ read_at 0 0 ∷ read_at 1 0 ∷ read_at 1 0 ∷ Dispatch 0 ∷ Dispatch 0 ∷ Dispatch 0 ∷ Dispatch 0 ∷ [])
      ≡ said.Session 0 ∷ said.Session 0 ∷ said.Accepted 0 (pos 0) ∷ said.Accepted 1 (pos 0) ∷ said.Accepted 0 (pos 0) ∷ said.Accepted 1 (pos 0)
      ∷ said.Picked 0 0 Weight ∷ said.Picked 1 0 Weight ∷ said.Picked 1 1 Weight ∷ said.Picked 0 1 Weight ∷ []

  -- ten requests a second and no more, whether anything is in service or not; a smaller moment doesn't turn time back
  abbrev pub LimitHoldsBack : Type 0
  LimitHoldsBack =
      answers_to {A = A} (server_of (export_of 0 10 1 ∷ []))
      (Attach 0 ∷ read_at 0 0 ∷ read_at 0 0 ∷ read_at 0 0 ∷ Dispatch 0 ∷ Perform 0 0 ∷ Dispatch 99999999 ∷ Dispatch 100000000 ∷ Dispatch 5 ∷ Dispatch 200000000 ∷ [])
      ≡ said.Session 0 ∷ said.Accepted 0 (pos 0) ∷ said.Accepted 1 (pos 100000000) ∷ said.Accepted 2 (pos 200000000) ∷ said.Picked 0 0 Weight ∷ said.Performed true
      ∷ said.Nothing ∷ said.Picked 0 1 Weight ∷ said.Nothing ∷ said.Picked 0 2 Weight ∷ []

  -- limit tags are given from the moment of the arrival, not from the server's, which is kept where nothing was chosen
  abbrev pub TagsComeFromTheArrival : Type 0
  TagsComeFromTheArrival =
      answers_to {A = A} (server_of (export_of 0 10 1 ∷ []))
      (Attach 0 ∷ Dispatch 100000000 ∷ read_at 0 0 ∷ read_at 0 0 ∷ Dispatch 0 ∷ Dispatch 0 ∷ [])
      ≡ said.Session 0 ∷ said.Nothing ∷ said.Accepted 0 (pos 0) ∷ said.Accepted 1 (pos 100000000) ∷ said.Picked 0 0 Weight ∷ said.Picked 0 1 Weight ∷ []

  -- moments of arrivals come in any order
  abbrev pub MomentsComeInAnyOrder : Type 0
  MomentsComeInAnyOrder =
      answers_to {A = A} (server_of (export_of 0 10 1 ∷ [])) (Attach 0 ∷ read_at 0 10 ∷ read_at 0 0 ∷ [])
      ≡ said.Session 0 ∷ said.Accepted 0 (pos 10) ∷ said.Accepted 1 (pos 100000010) ∷ []

  -- a choice by weight pays the reservation back
  abbrev pub credit_events : List (Event A)
  credit_events = Attach 0 ∷ read_at 0 0 ∷ read_at 0 0 ∷ Dispatch 0 ∷ Dispatch 0 ∷ read_at 0 0 ∷ []

  abbrev pub WeightIsCredited : Type 0
  WeightIsCredited =
      answers_to (server_of (export_of 4 0 1 ∷ [])) credit_events
      ≡ said.Session 0 ∷ said.Accepted 0 (pos 0) ∷ said.Accepted 1 (pos 0) ∷ said.Picked 0 0 Reservation ∷ said.Picked 0 1 Weight ∷ said.Accepted 2 (pos 0) ∷ []

  abbrev pub CreditMovesTheLastTag : Type 0
  CreditMovesTheLastTag = tags_in 0 (server_of (export_of 4 0 1 ∷ [])) credit_events ≡ (2, Some (pos 250000000), pos 0, pos 2000000000) ∷ []

  -- and those of the requests that wait
  abbrev pub CreditMovesTheWaiting : Type 0
  CreditMovesTheWaiting =
      tags_in {A = A} 0 (server_of (export_of 4 0 1 ∷ [])) (Attach 0 ∷ read_at 0 0 ∷ read_at 0 0 ∷ read_at 0 0 ∷ Dispatch 0 ∷ Dispatch 0 ∷ [])
      ≡ (2, Some (pos 250000000), pos 0, pos 2000000000) ∷ []

  -- an export that was idle doesn't start behind the one that was served
  abbrev pub shift_events : List (Event A)
  shift_events = Attach 0 ∷ Attach 1 ∷ read_at 0 0 ∷ read_at 0 0 ∷ read_at 0 0 ∷ Dispatch 0 ∷ Dispatch 0 ∷ read_at 1 5 ∷ []

  abbrev pub two_equals : Setup
  two_equals = server_of (export_of 0 0 1 ∷ export_of 0 0 1 ∷ [])

  abbrev pub ShiftMovesTheWaiting : Type 0
  ShiftMovesTheWaiting = tags_in 0 two_equals shift_events ≡ (2, None, pos 0, pos 5) ∷ []

  abbrev pub ShiftLeavesTheNewcomer : Type 0
  ShiftLeavesTheNewcomer = tags_in 1 two_equals shift_events ≡ (0, None, pos 5, pos 5) ∷ []

  abbrev pub EqualsGoByExport : Type 0
  EqualsGoByExport =
      answers_to two_equals (shift_events ++ Dispatch 5 ∷ [])
      ≡ said.Session 0 ∷ said.Session 0 ∷ said.Accepted 0 (pos 0) ∷ said.Accepted 1 (pos 0) ∷ said.Accepted 2 (pos 0) ∷ said.Picked 0 0 Weight ∷ said.Picked 0 1 Weight
      ∷ said.Accepted 0 (pos 5) ∷ said.Picked 0 2 Weight ∷ []

  -- the shift moves the last P of the active export, and not that of an idle one; an arrival to an active export shifts
  -- nothing. Export 0 was served and is idle, export 1 is active, and export 2 gets two requests
  abbrev pub IdleExportKeepsItsLastP : Type 0
  IdleExportKeepsItsLastP =
      last_p_tags {A = A} (server_of (export_of 0 0 1 ∷ export_of 0 0 1 ∷ export_of 0 0 1 ∷ []))
      (Attach 0 ∷ Attach 1 ∷ Attach 2 ∷ read_at 0 0 ∷ read_at 1 0 ∷ Dispatch 0 ∷ read_at 1 0 ∷ Dispatch 0 ∷ read_at 2 5 ∷ read_at 2 7 ∷ [])
      ≡ Some (pos 0) ∷ Some (pos 5) ∷ Some (pos 1000000005) ∷ []

  -- a reservation that is due goes before any weight
  abbrev pub ReservationGoesFirst : Type 0
  ReservationGoesFirst =
      answers_to {A = A} (server_of (export_of 0 0 1000000 ∷ export_of 1 0 1 ∷ [])) (Attach 0 ∷ Attach 1 ∷ read_at 0 0 ∷ read_at 1 0 ∷ Dispatch 0 ∷ Dispatch 0 ∷ [])
      ≡ said.Session 0 ∷ said.Session 0 ∷ said.Accepted 0 (pos 0) ∷ said.Accepted 0 (pos 0) ∷ said.Picked 1 0 Reservation ∷ said.Picked 0 0 Weight ∷ []

  -- where as many wait as the depth, a request is refused; the reply comes in its turn
  abbrev pub DepthRefuses : Type 0
  DepthRefuses =
      answers_to {A = A} (server_of (export_with 0 0 1 2 256 ∷ [])) (Attach 0 ∷ read_at 0 0 ∷ read_at 0 0 ∷ read_at 0 0 ∷ Dispatch 0 ∷ read_at 0 0 ∷ Take 0 0 ∷ [])
      ≡ said.Session 0 ∷ said.Accepted 0 (pos 0) ∷ said.Accepted 1 (pos 0) ∷ said.Answered 5 ∷ said.Picked 0 0 Weight ∷ said.Accepted 2 (pos 0)
      ∷ said.Reply (record { error = 5; cookie = 3; content = [] }) ∷ []

  -- the requests of another export don't count
  abbrev pub beside : ℕ → List (Event A)
  beside n = Attach 0 ∷ Attach 1 ∷ read_at 0 0 ∷ read_at 0 0 ∷ replicate n (read_at 1 0) ++ read_at 0 0 ∷ Dispatch 0 ∷ read_at 0 0 ∷ Take 0 0 ∷ []

  abbrev pub DepthCountsItsOwn : Type 0
  DepthCountsItsOwn =
      told 0 (beside 5) (answers_to (server_of (export_with 0 0 1 2 256 ∷ export_with 0 0 1 1024 1024 ∷ [])) (beside 5))
      ≡ alone.Session 0 ∷ alone.Accepted 0 (pos 0) ∷ alone.Accepted 1 (pos 0) ∷ alone.Answered 5 ∷ alone.Picked 0 ∷ alone.Accepted 2 (pos 0)
      ∷ alone.Reply (record { error = 5; cookie = 3; content = [] }) ∷ []

  -- nothing is chosen while as many are out as may be
  abbrev pub InflightHoldsBack : Type 0
  InflightHoldsBack =
      answers_to {A = A} (server 1 (export_of 0 0 1 ∷ [])) (Attach 0 ∷ read_at 0 0 ∷ read_at 0 0 ∷ Dispatch 0 ∷ Dispatch 0 ∷ Perform 0 0 ∷ Dispatch 0 ∷ [])
      ≡ said.Session 0 ∷ said.Accepted 0 (pos 0) ∷ said.Accepted 1 (pos 0) ∷ said.Picked 0 0 Weight ∷ said.Nothing ∷ said.Performed true ∷ said.Picked 0 1 Weight ∷ []

  -- a session waits until its reply is taken
  abbrev pub WindowHolds : Type 0
  WindowHolds =
      answers_to {A = A} (server_of (export_with 0 0 1 1024 1 ∷ []))
      (Attach 0 ∷ read_at 0 0 ∷ read_at 0 0 ∷ Dispatch 0 ∷ read_at 0 0 ∷ Perform 0 0 ∷ read_at 0 0 ∷ Take 0 0 ∷ read_at 0 0 ∷ [])
      ≡ said.Session 0 ∷ said.Accepted 0 (pos 0) ∷ said.Hold ∷ said.Picked 0 0 Weight ∷ said.Hold ∷ said.Performed true ∷ said.Hold
      ∷ said.Reply (record { error = 0; cookie = 3; content = [] }) ∷ said.Accepted 1 (pos 0) ∷ []

  -- a session that waits is told so before its request is looked at, and a request that is refused for itself is told so
  -- before it is counted
  abbrev pub RefusalsComeInOrder : Type 0
  RefusalsComeInOrder =
      answers_to {A = A} (server_of (export_with 0 0 1 1 2 ∷ []))
      (Attach 0 ∷ read_at 0 0 ∷ Arrive 0 0 0 (unknown 7) ∷ Arrive 0 0 0 (unknown 8) ∷ Take 0 0 ∷ read_at 0 0 ∷ [])
      ≡ said.Session 0 ∷ said.Accepted 0 (pos 0) ∷ said.Answered 22 ∷ said.Hold ∷ said.Reply (record { error = 22; cookie = 7; content = [] }) ∷ said.Answered 5 ∷ []

  -- a session that has left sends nothing, gets what it is owed, and only then has its end
  abbrev pub LeftSessionGetsItsReplies : Type 0
  LeftSessionGetsItsReplies =
      answers_to {A = A} (server_of (export_of 0 0 1 ∷ []))
      (Attach 0 ∷ read_at 0 0 ∷ Leave 0 0 ∷ Leave 0 0 ∷ read_at 0 0 ∷ Take 0 0 ∷ Dispatch 0 ∷ Take 0 0 ∷ Perform 0 0 ∷ Take 0 0 ∷ Take 0 0 ∷ [])
      ≡ said.Session 0 ∷ said.Accepted 0 (pos 0) ∷ said.Left ∷ said.NotOpen ∷ said.NotOpen ∷ said.Empty ∷ said.Picked 0 0 Weight ∷ said.Empty ∷ said.Performed true
      ∷ said.Reply (record { error = 0; cookie = 3; content = [] }) ∷ said.End ∷ []

  -- where memory is refused, an attach and an arrival change nothing and a READ is answered 12; a FLUSH wants none
  abbrev pub WantOfMemoryIsTold : Type 0
  WantOfMemoryIsTold =
      run_answers {A = A} (server_of (export_of 0 0 1 ∷ []))
      (Attach 0 ∷ Attach 0 ∷ read_at 0 0 ∷ read_at 0 0 ∷ Arrive 0 0 0 (flushing 4) ∷ Dispatch 0 ∷ Dispatch 0 ∷ Perform 0 0 ∷ Perform 0 1 ∷ Take 0 0 ∷ Take 0 0 ∷ [])
      (false ∷ true ∷ false ∷ true ∷ true ∷ true ∷ true ∷ false ∷ false ∷ [])
      ≡ said.NoMemory ∷ said.Session 0 ∷ said.NoMemory ∷ said.Accepted 0 (pos 0) ∷ said.Accepted 1 (pos 0) ∷ said.Picked 0 0 Weight ∷ said.Picked 0 1 Weight
      ∷ said.Performed false ∷ said.Performed true ∷ said.Reply (record { error = 12; cookie = 3; content = [] }) ∷ said.Reply (record { error = 0; cookie = 4; content = [] }) ∷ []

  -- 64 sessions of an export are as many as may be; there is no export 9
  abbrev pub SixtyFourAreFull : Type 0
  SixtyFourAreFull =
      answers_to {A = A} (server_of (export_of 0 0 1 ∷ [])) (replicate 65 (Attach 0) ++ Gone 0 3 ∷ Attach 0 ∷ Attach 9 ∷ [])
      ≡ numbered 0 64 (said.Full ∷ said.Dropped ∷ said.Session 64 ∷ said.NoExport ∷ [])
    where
      numbered : ℕ → ℕ → List (Answer A) → List (Answer A)
      numbered from zero rest = rest
      numbered from (suc n) rest = said.Session from ∷ numbered (suc from) n rest

  -- a session that is gone is still served, and another reads what it wrote
  abbrev pub gone_events : List (Event A)
  gone_events =
      Attach 0 ∷ Attach 0 ∷ Arrive 0 0 0 (writing 1 4 (222 ∷ 173 ∷ 190 ∷ 239 ∷ [])) ∷ Dispatch 0 ∷ Gone 0 0 ∷ Perform 0 0 ∷ Perform 0 0
      ∷ Arrive 0 1 0 (reading 2 4) ∷ Dispatch 0 ∷ Perform 0 1 ∷ Take 0 1 ∷ Take 0 1 ∷ Take 0 0 ∷ Leave 0 1 ∷ Take 0 1 ∷ Gone 0 1 ∷ []

  abbrev pub GoneIsStillServed : Type 0
  GoneIsStillServed =
      answers_to (server_of (export_of 0 0 1 ∷ [])) gone_events
      ≡ said.Session 0 ∷ said.Session 1 ∷ said.Accepted 0 (pos 0) ∷ said.Picked 0 0 Weight ∷ said.Dropped ∷ said.Performed true ∷ said.NotOut
      ∷ said.Accepted 1 (pos 0) ∷ said.Picked 0 1 Weight ∷ said.Performed true ∷ said.Reply (record { error = 0; cookie = 2; content = 222 ∷ 173 ∷ 190 ∷ 239 ∷ [] }) ∷ said.Empty
      ∷ said.NotOpen ∷ said.Left ∷ said.End ∷ said.Dropped ∷ []

  abbrev pub StepsAreCounted : Type 0
  StepsAreCounted = counted_in 0 (server_of (export_of 0 0 1 ∷ [])) gone_events ≡ 12

  -- the rates change while no request waits. The last limit tag stays, and the next one is an interval of the new limit
  -- above it
  abbrev pub retune_events : List (Event A)
  retune_events =
      Attach 0 ∷ read_at 0 0 ∷ Retune 0 (intervals_of 0 4 1) ∷ Dispatch 0 ∷ Retune 0 (intervals_of 0 4 1) ∷ read_at 0 0 ∷ read_at 0 0
      ∷ Dispatch 250000000 ∷ Dispatch 500000000 ∷ Retune 0 (intervals_of 0 0 1) ∷ read_at 0 0 ∷ []

  abbrev pub RatesChangeWhileNoneWaits : Type 0
  RatesChangeWhileNoneWaits =
      answers_to (server_of (export_of 0 10 1 ∷ [])) retune_events
      ≡ said.Session 0 ∷ said.Accepted 0 (pos 0) ∷ said.Waiting ∷ said.Picked 0 0 Weight ∷ said.Retuned ∷ said.Accepted 1 (pos 250000000) ∷ said.Accepted 2 (pos 500000000)
      ∷ said.Picked 0 1 Weight ∷ said.Picked 0 2 Weight ∷ said.Retuned ∷ said.Accepted 3 (pos 500000000) ∷ []

  abbrev pub RetunesAreCounted : Type 0
  RetunesAreCounted = counted_in 0 (server_of (export_of 0 10 1 ∷ [])) retune_events ≡ 10

  -- that there is no such export is told before that a request waits, and that before that memory is refused
  abbrev pub RetuneIsRefusedInOrder : Type 0
  RetuneIsRefusedInOrder =
      run_answers {A = A} (server_of (export_of 0 10 1 ∷ []))
      (Attach 0 ∷ Retune 1 (intervals_of 0 4 1) ∷ read_at 0 0 ∷ Retune 0 (intervals_of 0 4 1) ∷ Dispatch 0 ∷ Retune 0 (intervals_of 0 4 1) ∷ [])
      (true ∷ false ∷ true ∷ false ∷ true ∷ false ∷ [])
      ≡ said.Session 0 ∷ said.NoExport ∷ said.Accepted 0 (pos 0) ∷ said.Waiting ∷ said.Picked 0 0 Weight ∷ said.NoMemory ∷ []

  -- the last R and P tags stay too, but for that of a reservation that goes
  abbrev pub LastTagsStay : Type 0
  LastTagsStay =
      tags_in {A = A} 0 (server_of (export_of 4 0 1 ∷ [])) (Attach 0 ∷ read_at 0 0 ∷ Dispatch 0 ∷ Retune 0 (intervals_of 2 0 4) ∷ read_at 0 0 ∷ [])
      ≡ (1, Some (pos 500000000), pos 0, pos 250000000) ∷ []

  abbrev pub LastRGoesWithItsReservation : Type 0
  LastRGoesWithItsReservation =
      tags_in {A = A} 0 (server_of (export_of 4 0 1 ∷ []))
      (Attach 0 ∷ read_at 0 0 ∷ Dispatch 0 ∷ Retune 0 (intervals_of 0 0 1) ∷ Retune 0 (intervals_of 4 0 1) ∷ read_at 0 0 ∷ [])
      ≡ (1, Some (pos 0), pos 0, pos 1000000000) ∷ []
