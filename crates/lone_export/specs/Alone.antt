-- One export alone: there is no other export, no reservation or weight tag, no moment of a dispatch in it.
use Rattle.std.specs.Prelude.{ℕ, ◌+◌, ◌^◌, true, false, not, ◌&&◌, ◌==◌, nat_le, if◌then◌else◌, List, [], ◌∷◌, ◌++◌, length, filter, find, replicate, slice_get, drop, Option, Some, None, ℤ}
use Rattle.nbd_base.specs.Words.{when_some}
use Rattle.nbd_wire.specs.Grammar.{RequestMessage}
use Rattle.nbd_commands.specs.Terms.{Terms}
use Rattle.nbd_commands.specs.Verdict.{verdict_of}
use Rattle.nbd_commands.specs.Meaning.{image_after, data_of, may_want_memory}
use Rattle.tag_clock.specs.Intervals.{Intervals}
use Rattle.tag_clock.specs.Tags.{later}
use Rattle.reply_box.specs.Sessions.{Session, new_session, is_here, is_open_at, is_left_at, is_here_at, outbox_at, post_at, take_at, leave_at, drop_at}
use Rattle.lone_export.specs.declared.step.Step.{Step}
use Rattle.lone_export.specs.declared.step.Step.TheVariants.{Attach, Arrive, Pick, Perform, Take, Leave, Gone, Retune}
use Rattle.lone_export.specs.declared.step.StepAnswer.{StepAnswer}
use Rattle.lone_export.specs.declared.step.StepAnswer.TheVariants.{Session as Numbered, Accepted, Answered, Picked, Nothing, Performed, Reply as Replied, Empty, End, Left, Dropped, NotOpen, Worn, Full, Hold, NotOut, Retuned, Waiting}

-- a request that waits or is out, that is in service
pub record Job : Type 0 where
  pub number : ℕ
  pub session : ℕ
  pub request : RequestMessage

-- the state of one export alone: its bytes, the requests that wait and those that are out, oldest first, the number of
-- the next one, the last limit tag, the intervals of the rates in force, its sessions by number, and how many steps
-- changed something
pub record Alone : Type 0 where
  pub image : List ℕ
  pub waiting : List Job
  pub out : List Job
  pub next : ℕ
  pub last : Option ℤ
  pub rates : Intervals
  pub sessions : List Session
  pub count : ℕ

-- zeros and the rates at the start, and nothing else
abbrev pub opening : Terms → Alone
opening terms = record { image = replicate terms.size 0; waiting = []; out = []; next = 0; last = None; rates = terms.rates; sessions = []; count = 0 }

-- the requests of session s that wait or are out, and its replies that aren't taken
abbrev pub outstanding : Alone → ℕ → ℕ
outstanding state s = length (filter (λ job. job.session == s) state.waiting) + length (filter (λ job. job.session == s) state.out) + length (outbox_at state.sessions s)

-- the limit tag of an arrival at t
abbrev pub limit_tag : Alone → ℕ → ℤ
limit_tag state t = later state.last state.rates.l_interval t

-- a request that is out is done: its reply has no error
abbrev pub done : Alone → Job → Alone
done state job = record state {
  image = image_after state.image job.request;
  out = filter (λ other. not (other.number == job.number)) state.out;
  sessions = post_at job.session (record { error = 0; cookie = job.request.head.cookie; content = data_of state.image job.request }) state.sessions;
}

-- no memory was there for it: its reply has error 12 (ENOMEM), and the image stays
abbrev pub undone : Alone → Job → Alone
undone state job = record state {
  out = filter (λ other. not (other.number == job.number)) state.out;
  sessions = post_at job.session (record { error = 12; cookie = job.request.head.cookie; content = [] }) state.sessions;
}

-- what a step leaves, and its answer
pub record Moved (A : Type 0) : Type 0 where
  pub state : Alone
  pub answer : StepAnswer A

module _ {A : Type 0} where
  -- nothing changes
  abbrev pub stays : Alone → StepAnswer A → Moved A
  stays state said = record { state = state; answer = said }

  -- the state is another, and the step is counted
  abbrev pub moves : Alone → StepAnswer A → Moved A
  moves state said = record { state = record state { count = state.count + 1 }; answer = said }

  -- a request is refused with an error, which its session is told
  abbrev pub refused : Alone → ℕ → RequestMessage → ℕ → Moved A
  refused state s q error = moves (record state { sessions = post_at s (record { error = error; cookie = q.head.cookie; content = [] }) state.sessions }) (Answered error)

  -- a request waits behind the others
  abbrev pub accepted : Alone → ℕ → ℕ → RequestMessage → Moved A
  accepted state s t q =
      moves (record state {
        waiting = state.waiting ++ record { number = state.next; session = s; request = q } ∷ [];
        next = state.next + 1;
        last = Some (limit_tag state t);
      }) (Accepted state.next (limit_tag state t))

  -- one step: the first case that fits. 2^56 steps wear an export, 64 sessions fill it, and 5 is EIO
  abbrev pub own_step : Terms → Alone → Step A → Moved A
  own_step terms state Attach =
      if nat_le (2 ^ 56) state.count then stays state Worn
      else (if length (filter is_here state.sessions) == 64 then stays state Full
      else moves (record state { sessions = state.sessions ++ new_session ∷ [] }) (Numbered (length state.sessions)))
  own_step terms state (Arrive s t q) =
      if not (is_open_at state.sessions s) then stays state NotOpen
      else (if nat_le (2 ^ 56) state.count then stays state Worn
      else (if outstanding state s == terms.window then stays state Hold
      else (if not (verdict_of terms q == 0) then refused state s q (verdict_of terms q)
      else (if length state.waiting == terms.depth then refused state s q 5
      else accepted state s t q))))
  own_step terms state Pick =
      when_some (slice_get state.waiting 0)
      (λ job. moves (record state { waiting = drop 1 state.waiting; out = state.out ++ job ∷ [] }) (Picked job.number))
      (stays state Nothing)
  own_step terms state (Perform n memory) =
      when_some (find (λ job. job.number == n) state.out)
      (λ job. if not memory && may_want_memory job.request then moves (undone state job) (Performed false) else moves (done state job) (Performed true))
      (stays state NotOut)
  own_step terms state (Take s) =
      if not (is_here_at state.sessions s) then stays state NotOpen
      else when_some (slice_get (outbox_at state.sessions s) 0)
      (λ reply. moves (record state { sessions = take_at s state.sessions }) (Replied reply))
      (if is_left_at state.sessions s && outstanding state s == 0 then stays state End else stays state Empty)
  own_step terms state (Leave s) =
      if not (is_open_at state.sessions s) then stays state NotOpen
      else moves (record state { sessions = leave_at s state.sessions }) Left
  own_step terms state (Gone s) =
      if not (is_here_at state.sessions s) then stays state NotOpen
      else moves (record state { sessions = drop_at s state.sessions }) Dropped
  own_step terms state (Retune rates) =
      if nat_le (2 ^ 56) state.count then stays state Worn
      else (if not (length state.waiting == 0) then stays state Waiting
      else moves (record state { rates = rates }) Retuned)

  -- a list of steps, one after another: the last state, and each answer
  abbrev pub alone : Terms → Alone → List (Step A) → Alone
  alone terms state [] = state
  alone terms state (step ∷ steps) = alone terms (own_step terms state step).state steps

  abbrev pub answers_alone : Terms → Alone → List (Step A) → List (StepAnswer A)
  answers_alone terms state [] = []
  answers_alone terms state (step ∷ steps) = (own_step terms state step).answer ∷ answers_alone terms (own_step terms state step).state steps
