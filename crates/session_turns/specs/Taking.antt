-- Replies that a session takes one after another.
use Rattle.std.specs.Prelude.{◌≡◌, ◌≤◌, ◌⊎◌, ℕ, List, [], ◌∷◌, ◌++◌, length, Result, Ok, Err}
use Rattle.nbd_wire.specs.Grammar.{ReplyMessage}
use Rattle.server_table.specs.declared.event.Event.TheVariants as event
use Rattle.server_table.specs.declared.event.Answer.{Answer}
use Rattle.server_table.specs.declared.event.Answer.TheVariants as said
use Rattle.server_core.specs.declared.session.SessionId.{SessionId}
use Rattle.server_core.specs.Served.{Served, Stepped, answer_of_refusal}
use Rattle.server_lock.specs.declared.trace.AnswerTrace.TheVariants as answer
use Rattle.server_lock.specs.Scores.{Score, noted}
use Rattle.session_turns.specs.SessionTurns.{Turns, IsTake, IsGiven, IsRefused}
use Rattle.session_turns.specs.declared.taking.Stop.{Stop}
use Rattle.session_turns.specs.declared.taking.Stop.TheVariants.{Full, Empty, End, Refused}

module _ (A : Type 0) where
  -- the session takes, and is answered so
  pub record TakeSays (old : Served) (p : Score) (s : SessionId) (answer : Answer A) (new : Served) (q : Score) : Type 0 where
    pub step : Stepped {A = A} old (event.Take s.export s.number) new answer
    pub pass : q ≡ noted {A = A} p (event.Take s.export s.number) answer

  -- its takes give these replies, in this order
  abbrev pub Gives : Served → Score → SessionId → List ReplyMessage → Served → Score → Type 0
  Gives old p s [] new q = (old ≡ new) × (p ≡ q)
  Gives old p s (r ∷ rs) new q = (mid : Served) × (m : Score) × TakeSays old p s (said.Reply r) mid m × Gives mid m s rs new q

  -- a take gives none, and says why
  abbrev pub TakesNone : Served → Score → SessionId → Stop → Served → Score → Type 0
  TakesNone old p s Full new q = ⊥
  TakesNone old p s Empty new q = TakeSays old p s said.Empty new q
  TakesNone old p s End new q = TakeSays old p s said.End new q
  TakesNone old p s (Refused e) new q = TakeSays old p s (answer_of_refusal e) new q

  -- a reply, or none
  abbrev pub TakesReply : Served → Score → SessionId → Result ReplyMessage Stop → Served → Score → Type 0
  TakesReply old p s (Ok r) new q = TakeSays old p s (said.Reply r) new q
  TakesReply old p s (Err stop) new q = TakesNone old p s stop new q

  -- one more take gives none, and says why; or no take is made, since there are as many replies as there is room for
  abbrev pub Stops : Served → Score → SessionId → ℕ → ℕ → Stop → Served → Score → Type 0
  Stops old p s room count Full new q = (room ≤ count) × (old ≡ new) × (p ≡ q)
  Stops old p s room count Empty new q = TakeSays old p s said.Empty new q
  Stops old p s room count End new q = TakeSays old p s said.End new q
  Stops old p s room count (Refused e) new q = TakeSays old p s (answer_of_refusal e) new q

  -- the session's takes give replies, which go behind those that a list of so much room has, and then stop
  pub record Takes (old : Served) (p : Score) (s : SessionId) (before : List ReplyMessage) (room : ℕ) (stop : Stop) (all : List ReplyMessage) (new : Served) (q : Score) : Type 0 where
    pub replies : List ReplyMessage
    pub appended : all ≡ before ++ replies
    pub mid : Served
    pub m : Score
    pub gives : Gives old p s replies mid m
    pub stops : Stops mid m s room (length all) stop new q

-- the pass at a take for which there is room, or at none
abbrev pub TakesOne : Score → SessionId → List ReplyMessage → ℕ → Stop → List ReplyMessage → Score → Type 0
TakesOne p s before room Full all q =
    ((room ≤ length before) × (all ≡ before) × (q ≡ p)) ⊎ ((r : ReplyMessage) × (all ≡ before ++ r ∷ []) × Turns p (IsTake s) (IsGiven r) 1 q)
TakesOne p s before room Empty all q = (all ≡ before) × Turns p (IsTake s) (λ a. a ≡ answer.Empty) 0 q
TakesOne p s before room End all q = (all ≡ before) × Turns p (IsTake s) (λ a. a ≡ answer.End) 0 q
TakesOne p s before room (Refused e) all q = (all ≡ before) × Turns p (IsTake s) IsRefused 0 q
