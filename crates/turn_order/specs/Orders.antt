-- The flows of all exports, and what each call leaves and answers.
use Rattle.std.specs.Prelude.{ℕ, ◌+◌, ◌-◌, true, ◌&&◌, max, Bool, nat_lt, nat_le, List, [], ◌∷◌, Option, Some, None, slice_get, slice_set, if◌then◌else◌}
use Rattle.nbd_base.specs.Words.{when_some}
use Rattle.turn_order.specs.declared.Rates.{Rates}
use Rattle.turn_order.specs.declared.flow.Flow.{Flow}
use Rattle.turn_order.specs.declared.Turn.{Turn}
use Rattle.turn_order.specs.declared.Turn.TheVariants.{Go}
use Rattle.turn_order.specs.Flows.{one_more, contends_at, tuned}
use Rattle.turn_order.specs.Contenders.{among, credit_of, goes_on, turn_of, charged}

-- the flows by export, and the greatest virtual time that the first of the contenders had at a turn
pub record Order : Type 0 where
  pub flows : List Flow
  pub clock : ℕ

-- a flow in the place of another
abbrev pub placed : ℕ → Flow → Order → Order
placed e f o = record o { flows = slice_set o.flows e f }

-- it is seen now. Where it didn't contend it comes back, and isn't behind the clock by more than its credit
abbrev pub back : ℕ → Order → Flow → Flow
back now o f =
    record f {
      seen = now;
      virtual_time = if contends_at now f then f.virtual_time else max f.virtual_time (o.clock - credit_of now (among now o.flows f) f);
    }

-- one of its sessions has something at hand, and one hasn't any more
abbrev pub entered : ℕ → ℕ → Order → Order
entered e now o = when_some (slice_get o.flows e) (λ f. placed e (record (back now o f) { sessions = one_more f.sessions }) o) o

abbrev pub left : ℕ → Order → Order
left e o = when_some (slice_get o.flows e) (λ f. placed e (record f { sessions = f.sessions - 1 }) o) o

-- it lingers until a moment
abbrev pub lingering : ℕ → ℕ → Order → Order
lingering e until o = when_some (slice_get o.flows e) (λ f. placed e (record f { lingers_until = max f.lingers_until until }) o) o

-- it is past its limit until a moment
abbrev pub limited : ℕ → ℕ → Order → Order
limited e until o = when_some (slice_get o.flows e) (λ f. placed e (record f { limited_until = max f.limited_until until }) o) o

-- it has other rates
abbrev pub retuned : ℕ → Rates → Order → Order
retuned e rates o = when_some (slice_get o.flows e) (λ f. placed e (tuned rates o.clock f) o) o

-- one of its sessions waits for its turn, and one doesn't any more
abbrev pub wait_begun : ℕ → Order → Order
wait_begun e o = when_some (slice_get o.flows e) (λ f. placed e (record f { waiting = one_more f.waiting }) o) o

abbrev pub wait_ended : ℕ → Order → Order
wait_ended e o = when_some (slice_get o.flows e) (λ f. placed e (record f { waiting = f.waiting - 1 }) o) o

-- what flow f of export e is answered, and what is left
abbrev pub answered : ℕ → Flow → Order → Turn
answered now f o = turn_of now (among now o.flows f) f

abbrev pub turned : ℕ → ℕ → ℕ → Flow → Order → Order
turned e now cost f o =
    let all = among now o.flows f in
    if goes_on now all f then record { flows = slice_set o.flows e (charged now cost all f); clock = max o.clock all.first } else placed e (record f { stopped = true }) o

-- an export that asks is seen now; where its turn has come, it is charged, and else it is stopped
abbrev pub answer : ℕ → ℕ → Order → Turn
answer e now o = when_some (slice_get o.flows e) (λ f. answered now (back now o f) (placed e (back now o f) o)) Go

abbrev pub asked : ℕ → ℕ → ℕ → Order → Order
asked e now cost o = when_some (slice_get o.flows e) (λ f. turned e now cost (back now o f) (placed e (back now o f) o)) o

-- a session of it waits, and its turn has come
abbrev pub wakes : ℕ → List Flow → Flow → Bool
wakes now flows f = nat_lt 0 f.waiting && goes_on now (among now flows f) f

-- the first export from a number on that wakes
abbrev pub first_waking : ℕ → List Flow → ℕ → ℕ → List Flow → Option ℕ
first_waking now flows from e [] = None
first_waking now flows from e (f ∷ fs) =
    if nat_le from e && wakes now flows f then Some e else first_waking now flows from (e + 1) fs
