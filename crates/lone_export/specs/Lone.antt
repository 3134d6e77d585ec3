-- What a contract sees of a `Lone`, and what its calls answer, as steps.
use Rattle.std.specs.Prelude.{◌≡◌, ◌⊎◌, ℕ, ◌+◌, ◌<◌, ◌≤◌, ◌^◌, ◌==◌, nat_le, ◌&&◌, Bool, true, false, not, List, [], ◌∷◌, ◌++◌, length, filter, find, if◌then◌else◌, Option, Some, None, option_map, Result, Ok, Err}
use Rattle.nbd_base.specs.Words.{when_some}
use Rattle.nbd_wire.specs.Grammar.{RequestMessage}
use Rattle.nbd_wire.specs.declared.requests.RequestHead.{RequestHead}
use Rattle.nbd_commands.specs.Terms.{Terms}
use Rattle.nbd_commands.specs.Verdict.{is_read, verdict_of}
use Rattle.nbd_commands.specs.Meaning.{may_want_memory}
use Rattle.reply_box.specs.Sessions.{is_open_at, is_here, is_here_at, is_quiet_at}
use Rattle.reply_box.specs.declared.fault.NotOpen.{NotOpen}
use Rattle.reply_box.specs.declared.seat.Taken.{Taken}
use Rattle.reply_box.specs.declared.seat.Taken.TheVariants as taking
use Rattle.export_queue.specs.declared.Picked.{Picked}
use Rattle.lone_export.specs.Alone.{Alone, Job, own_step, refused, alone, answers_alone, outstanding, opening}
use Rattle.lone_export.specs.Calls.{to_come}
use Rattle.lone_export.specs.declared.step.Step.{Step}
use Rattle.lone_export.specs.declared.step.Step.TheVariants.{Attach, Arrive, Pick, Perform, Take, Leave, Gone, Retune}
use Rattle.lone_export.specs.declared.step.StepAnswer.{StepAnswer}
use Rattle.lone_export.specs.declared.step.StepAnswer.TheVariants as said
use Rattle.lone_export.specs.declared.refusal.AttachRefusal.{AttachRefusal}
use Rattle.lone_export.specs.declared.refusal.AttachRefusal.TheVariants as attaching
use Rattle.lone_export.specs.declared.refusal.NotAttached.{NotAttached}
use Rattle.lone_export.specs.declared.refusal.NotAttached.TheVariants.{Refused, NoMemory}
use Rattle.lone_export.specs.declared.refusal.ArriveRefusal.{ArriveRefusal}
use Rattle.lone_export.specs.declared.refusal.ArriveRefusal.TheVariants as arriving
use Rattle.lone_export.specs.declared.refusal.NotArrived.{NotArrived}
use Rattle.lone_export.specs.declared.refusal.Admission.{Admission}
use Rattle.lone_export.specs.declared.refusal.Admission.TheVariants as admitting
use Rattle.lone_export.specs.declared.refusal.RetuneRefusal.{RetuneRefusal}
use Rattle.lone_export.specs.declared.refusal.RetuneRefusal.TheVariants as retuning
use Rattle.lone_export.specs.declared.refusal.Arrived.{Arrived}
use Rattle.lone_export.specs.declared.refusal.Arrived.TheVariants as arrival

-- an export alone, with its terms, how many of its requests may be out, and the slots of those that are, in their order
pub record Whole : Type 0 where
  pub terms : Terms
  pub inflight : ℕ
  pub state : Alone
  pub slots : List ℕ

-- an export before its first step
abbrev pub opening_of : Terms → ℕ → Whole
opening_of terms inflight = record { terms = terms; inflight = inflight; state = opening terms; slots = [] }

-- the slot of the request of this number, where it is out
abbrev pub slot_among : List Job → List ℕ → ℕ → Option ℕ
slot_among [] slots n = None
slot_among (job ∷ jobs) [] n = None
slot_among (job ∷ jobs) (slot ∷ slots) n = if job.number == n then Some slot else slot_among jobs slots n

abbrev pub slot_at : Whole → ℕ → Option ℕ
slot_at w n = slot_among w.state.out w.slots n

-- the slots once the request of this number is out no longer
abbrev pub slots_without : List Job → List ℕ → ℕ → List ℕ
slots_without [] slots n = slots
slots_without (job ∷ jobs) [] n = []
slots_without (job ∷ jobs) (slot ∷ slots) n = if not (job.number == n) then slot ∷ slots_without jobs slots n else slots_without jobs slots n

-- the slots once a request was picked
abbrev pub slots_picked : List ℕ → Option Picked → List ℕ
slots_picked slots None = slots
slots_picked slots (Some p) = slots ++ p.slot ∷ []

-- what is true of every export: each request in service has a slot of its own, no more wait or are in service than may,
-- no session has more outstanding than the window, and counts and steps to come leave room in 64 bits
pub record IsInBounds (w : Whole) : Type 0 where
  pub slotted : length w.slots ≡ length w.state.out
  pub slots_differ : (m n slot : ℕ) → slot_at w m ≡ Some slot → slot_at w n ≡ Some slot → m ≡ n
  pub sized : length w.state.image ≡ w.terms.size
  pub few_wait : length w.state.waiting ≤ w.terms.depth
  pub few_out : length w.state.out ≤ w.inflight
  pub few_outstanding : (s : ℕ) → is_here_at w.state.sessions s ≡ true → outstanding w.state s ≤ w.terms.window
  pub few_here : length (filter is_here w.state.sessions) ≤ 64
  pub few_steps : w.state.count + to_come w.state ≤ 2 ^ 58

-- what is so where a session may be opened, or is refused
abbrev pub MayAttach : Whole → Result (Unit {0}) AttachRefusal → Type 0
MayAttach w (Ok done) = (nat_le (2 ^ 56) w.state.count ≡ false) × ((length (filter is_here w.state.sessions) == 64) ≡ false)
MayAttach w (Err attaching.Worn) = nat_le (2 ^ 56) w.state.count ≡ true
MayAttach w (Err attaching.Full) = (nat_le (2 ^ 56) w.state.count ≡ false) × ((length (filter is_here w.state.sessions) == 64) ≡ true)

-- what is so where a request of session s may arrive, or is refused
abbrev pub MayArrive : Whole → ℕ → Result (Unit {0}) ArriveRefusal → Type 0
MayArrive w s (Ok done) = (is_open_at w.state.sessions s ≡ true) × (nat_le (2 ^ 56) w.state.count ≡ false) × ((outstanding w.state s == w.terms.window) ≡ false)
MayArrive w s (Err arriving.NotOpen) = is_open_at w.state.sessions s ≡ false
MayArrive w s (Err arriving.Worn) = (is_open_at w.state.sessions s ≡ true) × (nat_le (2 ^ 56) w.state.count ≡ true)
MayArrive w s (Err arriving.Hold) = (is_open_at w.state.sessions s ≡ true) × (nat_le (2 ^ 56) w.state.count ≡ false) × ((outstanding w.state s == w.terms.window) ≡ true)

-- what is so where the rates may be others, or stay
abbrev pub MayRetune : Whole → Result (Unit {0}) RetuneRefusal → Type 0
MayRetune w (Ok done) = (nat_le (2 ^ 56) w.state.count ≡ false) × ((length w.state.waiting == 0) ≡ true)
MayRetune w (Err retuning.Worn) = nat_le (2 ^ 56) w.state.count ≡ true
MayRetune w (Err retuning.Waiting) = (nat_le (2 ^ 56) w.state.count ≡ false) × ((length w.state.waiting == 0) ≡ false)

-- whether a request that is performed by this mark has memory: one that wants none has
abbrev pub mark_again : Bool → RequestMessage → Bool
mark_again memory request = not (not memory && may_want_memory request)

-- the request that is in service under this number is a READ
abbrev pub is_reading : Alone → ℕ → Bool
is_reading state n = when_some (find (λ job. job.number == n) state.out) (λ job. is_read job.request) false

-- the head of the request that is in service under this number
abbrev pub head_at : Alone → ℕ → Option RequestHead
head_at state n = option_map (λ job. job.request.head) (find (λ job. job.number == n) state.out)

-- it is one of session s, which has no reply that would be taken before
abbrev pub is_read_next : Alone → ℕ → ℕ → Bool
is_read_next state n s = when_some (find (λ job. job.number == n) state.out) (λ job. job.session == s && is_read job.request && is_quiet_at state.sessions s) false

-- a request of session s would wait, if it arrived
pub record Admits (terms : Terms) (state : Alone) (s : ℕ) (q : RequestMessage) : Type 0 where
  pub is_open : is_open_at state.sessions s ≡ true
  pub young : nat_le (2 ^ 56) state.count ≡ false
  pub spare : (outstanding state s == terms.window) ≡ false
  pub fine : (verdict_of terms q == 0) ≡ true
  pub shallow : (length state.waiting == terms.depth) ≡ false

-- no request waits or is in service, one of session s would wait, if it arrived, and its reply would be the next that s takes
pub record IsIdleFor (terms : Terms) (state : Alone) (s : ℕ) (q : RequestMessage) : Type 0 where
  pub admits : Admits terms state s q
  pub none_wait : length state.waiting ≡ 0
  pub none_out : length state.out ≡ 0
  pub quiet : is_quiet_at state.sessions s ≡ true

module _ (A : Type 0) where
  -- what becomes of a request of session s, if it arrives: it waits, its session is told an error at once, or it is refused
  abbrev pub IsAdmission : Whole → ℕ → RequestMessage → Result Admission ArriveRefusal → Type 0
  IsAdmission w s q (Ok admitting.Waits) = Admits w.terms w.state s q
  IsAdmission w s q (Ok (admitting.Answered error)) = MayArrive w s (Ok tt) × ((t : ℕ) → own_step {A = A} w.terms w.state (Arrive s t q) ≡ refused w.state s q error)
  IsAdmission w s q (Err e) = MayArrive w s (Err e)

module _ {A : Type 0} where
  -- a call is this step, with this answer
  pub record Does (old new : Whole) (step : Step A) (answer : StepAnswer A) : Type 0 where
    pub did : own_step old.terms old.state step ≡ record { state = new.state; answer = answer }
    pub terms : new.terms ≡ old.terms
    pub inflight : new.inflight ≡ old.inflight

  -- a call is these steps, one after the other
  pub record DoesAll (old new : Whole) (steps : List (Step A)) : Type 0 where
    pub state : new.state ≡ alone old.terms old.state steps
    pub terms : new.terms ≡ old.terms
    pub inflight : new.inflight ≡ old.inflight

  -- the same, or nothing at all where there was no answer
  abbrev pub DoesOr : Whole → Whole → Step A → Option (StepAnswer A) → Type 0
  DoesOr old new step None = new ≡ old
  DoesOr old new step (Some answer) = Does old new step answer

  -- a step may be made again; for a pick fewer are out than may be
  abbrev pub MayReplay : Whole → Step A → Type 0
  MayReplay w step = step ≡ Pick → length w.state.out < w.inflight

  -- whether a step that is made again may want memory: the outbox of a session that is not refused, a request's copy, or
  -- what the request itself may want where it had it
  abbrev pub wants_memory : Alone → Step A → Bool
  wants_memory state Attach = not (nat_le (2 ^ 56) state.count) && not (length (filter is_here state.sessions) == 64)
  wants_memory state (Arrive s t q) = true
  wants_memory state Pick = false
  wants_memory state (Perform n memory) = memory && when_some (find (λ job. job.number == n) state.out) (λ job. may_want_memory job.request) false
  wants_memory state (Take s) = false
  wants_memory state (Leave s) = false
  wants_memory state (Gone s) = false
  wants_memory state (Retune rates) = false

  -- why a list of steps is made no further: it ends, its next step may not be made, or may have found no memory
  abbrev pub StopsAt : Whole → Option (Step A) → Type 0
  StopsAt w None = Unit {0}
  StopsAt w (Some step) = (MayReplay w step → ⊥) ⊎ (wants_memory w.state step ≡ true)

  -- the steps were made one after another, and their answers follow those that were there before
  pub record IsReplayed (old new : Whole) (steps : List (Step A)) (before after : List (StepAnswer A)) : Type 0 where
    pub state : new.state ≡ alone old.terms old.state steps
    pub answers : after ≡ before ++ answers_alone old.terms old.state steps
    pub terms : new.terms ≡ old.terms
    pub inflight : new.inflight ≡ old.inflight

  abbrev pub step_answer_of_attach_refusal : AttachRefusal → StepAnswer A
  step_answer_of_attach_refusal attaching.Worn = said.Worn
  step_answer_of_attach_refusal attaching.Full = said.Full

  abbrev pub step_answer_of_attach : Result ℕ NotAttached → Option (StepAnswer A)
  step_answer_of_attach (Ok n) = Some (said.Session n)
  step_answer_of_attach (Err (Refused e)) = Some (step_answer_of_attach_refusal e)
  step_answer_of_attach (Err NoMemory) = None

  abbrev pub step_answer_of_refusal : ArriveRefusal → StepAnswer A
  step_answer_of_refusal arriving.NotOpen = said.NotOpen
  step_answer_of_refusal arriving.Worn = said.Worn
  step_answer_of_refusal arriving.Hold = said.Hold

  abbrev pub step_answer_of_arrive : Result Arrived (NotArrived A) → StepAnswer A
  step_answer_of_arrive (Ok (arrival.Accepted n tag)) = said.Accepted n tag
  step_answer_of_arrive (Ok (arrival.Answered error)) = said.Answered error
  step_answer_of_arrive (Err e) = step_answer_of_refusal e.refusal

  abbrev pub step_answer_of_pick : Option Picked → StepAnswer A
  step_answer_of_pick None = said.Nothing
  step_answer_of_pick (Some p) = said.Picked p.number

  abbrev pub step_answer_of_take : Result (Taken A) NotOpen → StepAnswer A
  step_answer_of_take (Ok (taking.Reply r)) = said.Reply r
  step_answer_of_take (Ok taking.Empty) = said.Empty
  step_answer_of_take (Ok taking.End) = said.End
  step_answer_of_take (Err e) = said.NotOpen

  abbrev pub step_answer_of_leave : Result (Unit {0}) NotOpen → StepAnswer A
  step_answer_of_leave (Ok done) = said.Left
  step_answer_of_leave (Err e) = said.NotOpen

  abbrev pub step_answer_of_gone : Result (Unit {0}) NotOpen → StepAnswer A
  step_answer_of_gone (Ok done) = said.Dropped
  step_answer_of_gone (Err e) = said.NotOpen

  abbrev pub step_answer_of_retune : Result (Unit {0}) RetuneRefusal → StepAnswer A
  step_answer_of_retune (Ok done) = said.Retuned
  step_answer_of_retune (Err retuning.Worn) = said.Worn
  step_answer_of_retune (Err retuning.Waiting) = said.Waiting
