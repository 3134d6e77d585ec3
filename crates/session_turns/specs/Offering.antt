-- What the turns of a session do to a server that their caller holds.
use Rattle.std.specs.Prelude.{◌≡◌, ◌≢◌, ◌⊎◌, ℕ, Ok}
use Rattle.nbd_wire.specs.Grammar.{RequestMessage}
use Rattle.server_table.specs.declared.event.Event.{Event}
use Rattle.server_table.specs.declared.event.Event.TheVariants as event
use Rattle.server_table.specs.declared.event.Answer.{Answer}
use Rattle.server_table.specs.declared.event.Answer.TheVariants as said
use Rattle.server_core.specs.declared.session.SessionId.{SessionId}
use Rattle.server_core.specs.declared.refusal.SessionRefusal.{SessionRefusal}
use Rattle.server_core.specs.Served.{Served, Stepped, answer_of_arrive, answer_of_refusal}
use Rattle.server_lock.specs.Scores.{Score, noted}
use Rattle.nbd_stream.specs.declared.ending.Frame.{Frame}
use Rattle.nbd_stream.specs.declared.ending.Frame.TheVariants as frames
use Rattle.nbd_stream.specs.Frames.{Stream}
use Rattle.session_turns.specs.SessionTurns.{Reads}
use Rattle.session_turns.specs.declared.turns.Turn.{Turn}
use Rattle.session_turns.specs.declared.turns.Turn.TheVariants.{Going, Held, Ended}

module _ (A : Type 0) where
  -- one step of the server, which the pass notes
  pub record Makes (old : Served) (p : Score) (what : Event A) (answer : Answer A) (new : Served) (q : Score) : Type 0 where
    pub step : Stepped {A = A} old what new answer
    pub pass : q ≡ noted {A = A} p what answer

  -- the session left, or it was refused since it isn't open
  abbrev pub MakesLeave : Served → Score → SessionId → Served → Score → Type 0
  MakesLeave old p s new q = Makes old p (event.Leave s.export s.number) said.Left new q
      ⊎ ((e : SessionRefusal) × Makes old p (event.Leave s.export s.number) (answer_of_refusal {A = A} e) new q)

  -- the arrival, and where the export is worn or no memory was there, the leaving behind it
  abbrev pub MakesOffer : Served → Score → SessionId → Event A → Turn A → Served → Score → Type 0
  MakesOffer old p s what (Going a) new q = Makes old p what (answer_of_arrive {A = A} (Ok a.answer)) new q
  MakesOffer old p s what (Held back) new q = Makes old p what said.Hold new q
  MakesOffer old p s what Ended new q = ((e : SessionRefusal) × Makes old p what (answer_of_refusal {A = A} e) new q)
      ⊎ ((mid : Served) × (m : Score) × Makes old p what said.Worn mid m × MakesLeave mid m s new q)
      ⊎ ((mid : Served) × (m : Score) × Makes old p what said.NoMemory mid m × MakesLeave mid m s new q)

  -- the whole request arrived, at a moment
  abbrev pub Offers : Served → Score → SessionId → RequestMessage → Turn A → Served → Score → Type 0
  Offers old p s request turn new q = (t : ℕ) × MakesOffer old p s (event.Arrive s.export s.number t request) turn new q

  -- a request other than DISC arrived; else the session left
  abbrev pub HandsIn : Served → Score → SessionId → Frame A → Turn A → Served → Score → Type 0
  HandsIn old p s (frames.Whole m) turn new q = ((m.head.kind ≡ 2) × MakesLeave old p s new q) ⊎ ((m.head.kind ≢ 2) × Offers old p s m turn new q)
  HandsIn old p s (frames.Ended e) turn new q = MakesLeave old p s new q

  -- what the reader gave was handed in
  abbrev pub HandsInNext : Stream → Stream → Served → Score → SessionId → Turn A → Served → Score → Type 0
  HandsInNext before after old p s turn new q = (frame : Frame A) × Reads before after frame × HandsIn old p s frame turn new q
