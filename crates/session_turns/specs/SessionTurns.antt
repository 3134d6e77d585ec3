-- What a turn of a session does to its pass and its reader.
use Rattle.std.specs.Prelude.{◌≡◌, ◌≢◌, ℕ, ◌+◌, ◌<◌, ◌⊎◌, Option, Some, None, ⊤}
use Rattle.nbd_wire.specs.declared.requests.RequestHead.{RequestHead}
use Rattle.nbd_wire.specs.Grammar.{RequestMessage, ReplyMessage}
use Rattle.lone_export.specs.declared.refusal.Arrived.{Arrived}
use Rattle.lone_export.specs.declared.refusal.Arrived.TheVariants as arrival
use Rattle.server_core.specs.declared.session.SessionId.{SessionId}
use Rattle.server_lock.specs.declared.trace.Trace.{Trace}
use Rattle.server_lock.specs.declared.trace.EventTrace.{EventTrace}
use Rattle.server_lock.specs.declared.trace.EventTrace.TheVariants as event
use Rattle.server_lock.specs.declared.trace.AnswerTrace.{AnswerTrace}
use Rattle.server_lock.specs.declared.trace.AnswerTrace.TheVariants as answer
use Rattle.server_lock.specs.Scores.{Score, next_count}
use Rattle.nbd_stream.specs.declared.ending.Ending.{Ending}
use Rattle.nbd_stream.specs.declared.ending.Frame.{Frame}
use Rattle.nbd_stream.specs.declared.ending.Frame.TheVariants as frames
use Rattle.nbd_stream.specs.Frames.{Stream, Nexts, IsWhole}
use Rattle.session_turns.specs.declared.turns.Turn.{Turn}
use Rattle.session_turns.specs.declared.turns.Turn.TheVariants.{Going, Held, Ended}

-- ---- one turn

-- the latest turn of a pass was this event, with such an answer
abbrev pub IsLast : Option Trace → (EventTrace → Type 0) → (AnswerTrace → Type 0) → Type 0
IsLast None IsEvent IsAnswer = ⊥
IsLast (Some t) IsEvent IsAnswer = IsEvent t.event × IsAnswer t.answer

-- one turn was made: such an event with such an answer, which counts so many steps. What the pass holds stays
pub record Turns (p : Score) (IsEvent : EventTrace → Type 0) (IsAnswer : AnswerTrace → Type 0) (steps : ℕ) (q : Score) : Type 0 where
  pub turns : q.turns ≡ next_count p.turns
  pub share : q.share ≡ p.share + steps
  pub last : IsLast q.last IsEvent IsAnswer
  pub held : q.held ≡ p.held
  pub choice : q.choice ≡ p.choice

-- a request with this head arrived on the session
abbrev pub IsArrival : SessionId → RequestHead → EventTrace → Type 0
IsArrival s h (event.Arrive e n t g) = (e ≡ s.export) × (n ≡ s.number) × (g ≡ h)
IsArrival s h other = ⊥

abbrev pub IsTake : SessionId → EventTrace → Type 0
IsTake s e = e ≡ event.Take s.export s.number

abbrev pub IsLeave : SessionId → EventTrace → Type 0
IsLeave s e = e ≡ event.Leave s.export s.number

abbrev pub IsGone : SessionId → EventTrace → Type 0
IsGone s e = e ≡ event.Gone s.export s.number

abbrev pub number_of : Arrived → Option ℕ
number_of (arrival.Accepted n tag) = Some n
number_of (arrival.Answered error) = None

-- the request waits, with this number and this limit tag, or its session is told this error
abbrev pub IsTakenIn : Arrived → AnswerTrace → Type 0
IsTakenIn (arrival.Accepted n tag) a = a ≡ answer.Accepted n tag
IsTakenIn (arrival.Answered error) a = a ≡ answer.Answered error

-- the session isn't there, or not open any more
abbrev pub IsRefused : AnswerTrace → Type 0
IsRefused answer.NoExport = ⊤
IsRefused answer.NotOpen = ⊤
IsRefused a = ⊥

-- this reply was given
abbrev pub IsGiven : ReplyMessage → AnswerTrace → Type 0
IsGiven r a = a ≡ answer.Reply r.error r.cookie

-- the session left, which counts a step; or it was refused since it isn't open, and nothing is counted
abbrev pub Leaves : Score → SessionId → Score → Type 0
Leaves p s q = Turns p (IsLeave s) (λ a. a ≡ answer.Left) 1 q ⊎ Turns p (IsLeave s) IsRefused 0 q

-- the same of a session that was dropped
abbrev pub Drops : Score → SessionId → Score → Type 0
Drops p s q = Turns p (IsGone s) (λ a. a ≡ answer.Dropped) 1 q ⊎ Turns p (IsGone s) IsRefused 0 q

-- ---- a request is offered

-- it was refused since its session isn't open; or its export is worn, or no memory was there for it, and the session left
abbrev pub OfferEnds : Score → SessionId → RequestHead → Score → Type 0
OfferEnds p s h q = Turns p (IsArrival s h) IsRefused 0 q
    ⊎ ((r : Score) × Turns p (IsArrival s h) (λ a. a ≡ answer.Worn) 0 r × Leaves r s q)
    ⊎ ((r : Score) × Turns p (IsArrival s h) (λ a. a ≡ answer.NoMemory) 0 r × Leaves r s q)

module _ {A : Type 0} where
  abbrev pub IsOffered : Score → SessionId → RequestMessage → Turn A → Score → Type 0
  IsOffered p s m (Going a) q = (a.head ≡ m.head) × Turns p (IsArrival s m.head) (IsTakenIn a.answer) 1 q
  IsOffered p s m (Held back) q = Turns p (IsArrival s m.head) (λ a. a ≡ answer.Hold) 0 q × (back ≡ m)
  IsOffered p s m Ended q = OfferEnds p s m.head q

  -- ---- what was read is handed in

  -- what stands next in the client's bytes, as a reader tells it
  pub record Reads (old new : Stream) (frame : Frame A) : Type 0 where
    pub next : old.reading.ended ≡ None → Nexts old.reading new.reading old.left new.left old.failures new.failures frame
    pub ready : old.reading.ended ≡ None → 0 < old.reading.ready → IsWhole frame × (new.left ≡ old.left) × (new.failures ≡ old.failures)
    pub again : (e : Ending) → old.reading.ended ≡ Some e → (frame ≡ frames.Ended e) × (new ≡ old)

  -- what was read was handed in: a request other than DISC was offered; else the session left
  abbrev pub IsHandedIn : Score → SessionId → Frame A → Turn A → Score → Type 0
  IsHandedIn p s (frames.Whole m) turn q = ((m.head.kind ≡ 2) × (turn ≡ Ended) × Leaves p s q) ⊎ ((m.head.kind ≢ 2) × IsOffered p s m turn q)
  IsHandedIn p s (frames.Ended e) turn q = (turn ≡ Ended) × Leaves p s q

  abbrev pub IsReadTurn : Stream → Stream → Score → SessionId → Turn A → Score → Type 0
  IsReadTurn old new p s turn q = (frame : Frame A) × Reads old new frame × IsHandedIn p s frame turn q
