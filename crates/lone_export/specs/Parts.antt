-- An export as its parts keep it, and what is true of them.
use Rattle.std.specs.Prelude.{◌≡◌, ℕ, suc, ◌+◌, ◌*◌, ◌<◌, ◌≤◌, ◌^◌, ◌==◌, Bool, true, if◌then◌else◌, List, [], ◌∷◌, ◌++◌, map, length, filter, Option, Some, None, ℤ, pos, ◌<ℤ◌, ◌≤ℤ◌}
use Rattle.std.specs.FinMap as fin
use Rattle.nbd_wire.specs.Grammar.{ReplyMessage, IsRequest}
use Rattle.nbd_commands.specs.Terms.{Terms}
use Rattle.nbd_commands.specs.Verdict.{verdict_of}
use Rattle.nbd_commands.specs.declared.judging.ExportInfo.{ExportInfo}
use Rattle.tag_clock.specs.Intervals.{Intervals}
use Rattle.tag_clock.specs.Clocks.{Limit}
use Rattle.export_queue.specs.Queue.{Queue, after_finish, item_held}
use Rattle.reply_box.specs.Sessions.{Session, is_here}
use Rattle.reply_box.specs.Box.{Box, after_put}
use Rattle.lone_export.specs.Alone.{Alone, Job}
use Rattle.lone_export.specs.Calls.{to_come}
use Rattle.lone_export.specs.Lone.{Whole}
use Rattle.lone_export.specs.declared.row.Row.{Row}

-- the intervals are those at the start, and those in force
pub record Parts (A : Type 0) : Type 0 where
  pub info : ExportInfo
  pub tuning : Intervals
  pub rates : Intervals
  pub image : List ℕ
  pub queue : Queue (Row A)
  pub clock : Limit
  pub sessions : Box
  pub count : ℕ
  pub asked : ℕ

-- the requests that are out, and behind them those that wait: in the order of their numbers
abbrev pub jobs : Alone → List Job
jobs state = state.out ++ state.waiting

-- how many of them are of session s
abbrev pub jobs_of : List Job → ℕ → ℕ
jobs_of js s = length (filter (λ job. job.session == s) js)

-- each is above n
abbrev pub AreAbove : ℕ → List Job → Type 0
AreAbove n [] = Unit {0}
AreAbove n (job ∷ js) = (n < job.number) × AreAbove n js

-- the numbers rise up to the next one, and no request is one that is refused
abbrev pub AreJobs : Terms → ℕ → List Job → Type 0
AreJobs terms next [] = Unit {0}
AreJobs terms next (job ∷ js) = (verdict_of terms job.request ≡ 0) × ((job.number < next) × (AreAbove job.number js × AreJobs terms next js))

-- a session that is here is owed a reply for each of its requests; no request is of a session that never was
abbrev pub AreOwed : (ℕ → ℕ) → List Session → List ℕ → Type 0
AreOwed rows [] [] = (s : ℕ) → rows s ≡ 0
AreOwed rows [] (n ∷ owed) = ⊥
AreOwed rows (session ∷ sessions) [] = ⊥
AreOwed rows (session ∷ sessions) (n ∷ owed) = (is_here session ≡ true → n ≡ rows 0) × AreOwed (λ s. rows (suc s)) sessions owed

-- the last limit tag, after as many arrivals were accepted as the next number tells
abbrev pub IsTag : ℕ → Option ℤ → Type 0
IsTag next None = Unit {0}
IsTag next (Some tag) = (pos 0 ≤ℤ tag) × (tag <ℤ pos (2 ^ 62 + next * 2 ^ 30))

-- the numbers and tags are in range. Each attach, arrival and retune brings four steps at most, itself among them
pub record IsBounded (state : Alone) (asked : ℕ) : Type 0 where
  pub budget : state.count + to_come state ≤ 4 * asked
  pub asked_counted : asked ≤ state.count
  pub asked_few : asked ≤ 2 ^ 56
  pub numbered : state.next ≤ state.count
  pub seated : length state.sessions ≤ state.count
  pub interval : state.rates.l_interval < 2 ^ 30
  pub tag : IsTag state.next state.last

-- the reply to a request that was performed: error 12 (ENOMEM) where no memory was there
abbrev pub reply_to : Bool → ℕ → List ℕ → ReplyMessage
reply_to memory cookie content = if memory then record { error = 0; cookie = cookie; content = content } else record { error = 12; cookie = cookie; content = [] }

module _ {A : Type 0} where
  abbrev pub job_of : (ℕ × Row A) → Job
  job_of e = record { number = e.0; session = e.1.session; request = e.1.request }

  abbrev pub out_job : (ℕ × (ℕ × Row A)) → Job
  out_job e = record { number = e.0; session = e.1.1.session; request = e.1.1.request }

  abbrev pub slot_of : (ℕ × (ℕ × Row A)) → ℕ
  slot_of e = e.1.0

  abbrev pub terms_at : Parts A → Terms
  terms_at p = record {
    size = p.info.size;
    read_only = p.info.read_only;
    depth = p.queue.depth;
    window = p.sessions.window;
    rates = p.tuning;
  }

  abbrev pub state_at : Parts A → Alone
  state_at p = record {
    image = p.image;
    waiting = map job_of p.queue.waiting;
    out = map out_job (fin.entries p.queue.out);
    next = p.queue.next;
    last = p.clock.last;
    rates = p.rates;
    sessions = p.sessions.sessions;
    count = p.count;
  }

  abbrev pub whole_of : Parts A → Whole
  whole_of p = record { terms = terms_at p; inflight = p.queue.inflight; state = state_at p; slots = map slot_of (fin.entries p.queue.out) }

  pub record IsLone (p : Parts A) : Type 0 where
    pub sized : length p.image ≡ p.info.size
    pub numbered : AreJobs (terms_at p) p.queue.next (jobs (state_at p))
    pub owed : AreOwed (jobs_of (jobs (state_at p))) p.sessions.sessions p.sessions.owed
    pub ticks : p.clock.interval ≡ p.rates.l_interval
    pub bounded : IsBounded (state_at p) p.asked
    pub depth : p.queue.depth ≤ 4096
    pub window : p.sessions.window ≤ 4096
    pub inflight : p.queue.inflight ≤ 4096

  -- a request that is in service in this slot was performed: it is in service no longer, and its session has its reply
  pub record Settles (queue : Queue (Row A)) (sessions : Box) (slot n : ℕ) (memory : Bool) (content : List ℕ) (queue_then : Queue (Row A)) (sessions_then : Box) : Type 0 where
    pub row : Row A
    pub held : item_held queue slot n ≡ Some row
    pub request : IsRequest row.request
    pub finished : queue_then ≡ after_finish queue n
    pub replied : sessions_then ≡ after_put sessions row.session (reply_to memory row.request.head.cookie content)
