-- How a client of the threaded server is given a session.
use Rattle.std.specs.Prelude.{◌≡◌, ℕ, Option, Some, None, ⊤}
use Rattle.nbd_options.specs.declared.attach.Attached.{Attached}
use Rattle.nbd_options.specs.declared.attach.Attached.TheVariants.{Given, Full, Other}
use Rattle.server_core.specs.declared.session.SessionId.{SessionId}
use Rattle.server_lock.specs.declared.trace.EventTrace.{EventTrace}
use Rattle.server_lock.specs.declared.trace.EventTrace.TheVariants as event
use Rattle.server_lock.specs.declared.trace.AnswerTrace.{AnswerTrace}
use Rattle.server_lock.specs.declared.trace.AnswerTrace.TheVariants as answer
use Rattle.server_lock.specs.Scores.{Score}
use Rattle.session_turns.specs.SessionTurns.{Turns}

-- what a contract sees of a door: the pass that makes its turns, and the session that was given last
pub record Entering : Type 0 where
  pub pass : Score
  pub session : Option SessionId

abbrev pub IsAttach : ℕ → EventTrace → Type 0
IsAttach export e = e ≡ event.Attach export

-- no session is to be had
abbrev pub IsOther : AnswerTrace → Type 0
IsOther answer.NoExport = ⊤
IsOther answer.Worn = ⊤
IsOther answer.NoMemory = ⊤
IsOther a = ⊥

-- a session of this export was given, the one that the answer tells
abbrev pub IsGiven : ℕ → Option SessionId → AnswerTrace → Type 0
IsGiven export None a = ⊥
IsGiven export (Some s) a = (s.export ≡ export) × (a ≡ answer.Session s.number)

-- one turn was made, an attach of this export, and the answer is its own
abbrev pub Enters : ℕ → Entering → Entering → Attached → Type 0
Enters export old new Given = Turns old.pass (IsAttach export) (IsGiven export new.session) 1 new.pass
Enters export old new Full = (new.session ≡ old.session) × Turns old.pass (IsAttach export) (λ a. a ≡ answer.Full) 0 new.pass
Enters export old new Other = (new.session ≡ old.session) × Turns old.pass (IsAttach export) IsOther 0 new.pass
