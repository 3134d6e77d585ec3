-- What holds of turns, whatever the order of the calls.
use Rattle.std.specs.Prelude.{◌≡◌, ℕ, ◌+◌, ◌-◌, ◌*◌, ◌^◌, ◌<◌, ◌≤◌, ◌⊎◌, min, max, true, false, List, [], ◌∷◌, Some, slice_get}
use Rattle.std.specs.List.{AllByRecursion}
use Rattle.nbd_base.specs.Words.{when_some}
use Rattle.turn_order.specs.declared.Rates.{Rates}
use Rattle.turn_order.specs.declared.flow.Flow.{Flow}
use Rattle.turn_order.specs.declared.Turn.TheVariants.{Go}
use Rattle.turn_order.specs.Flows.{step_of, contends_at, late_at}
use Rattle.turn_order.specs.Orders.{Order, placed, entered, left, answer}
use Rattle.turn_order.specs.Calls.{Call, after, run, fresh, is_go, given, IsCostUpTo}
use Rattle.turn_order.specs.Calls.Call.{Enter, Leave, Begin_wait, End_wait, Linger, Limit, Retune, Ask}

-- the export's flow, and its virtual time
abbrev pub IsFlow : ℕ → Flow → Order → Type 0
IsFlow e f o = slice_get o.flows e ≡ Some f

abbrev pub time_of : ℕ → Order → ℕ
time_of e o = when_some (slice_get o.flows e) (λ f. f.virtual_time) 0

-- the export contends
abbrev pub IsContending : ℕ → ℕ → Order → Type 0
IsContending e now o = when_some (slice_get o.flows e) (contends_at now) false ≡ true

-- it does so at the moment of a call, which gives it no other rates, and of each of some calls
abbrev pub IsContendingAt : ℕ → Call → Order → Type 0
IsContendingAt e (Enter x now) o = IsContending e now o
IsContendingAt e (Leave x) o = Unit {0}
IsContendingAt e (Begin_wait x) o = Unit {0}
IsContendingAt e (End_wait x) o = Unit {0}
IsContendingAt e (Linger x until) o = Unit {0}
IsContendingAt e (Limit x until) o = Unit {0}
IsContendingAt e (Retune x rates) o = x ≡ e → ⊥
IsContendingAt e (Ask x now cost) o = IsContending e now o

abbrev pub IsThroughout : ℕ → List Call → Order → Type 0
IsThroughout e [] o = Unit {0}
IsThroughout e (c ∷ cs) o = IsContendingAt e c o × IsThroughout e cs (after c o)

-- how far a flow may be ahead of another: the slack, and a turn of so many units
abbrev pub lead : ℕ → Flow → Flow → ℕ
lead most f g = max (8192 * min f.step g.step) (8 * f.step) + most * f.step

-- While two contend, one without a reservation isn't given more over its weight than the other, but for how far the other
-- was ahead and for the lead.
abbrev pub IsGivenByWeight : Type 0
IsGivenByWeight =
    (a b most : ℕ) (f g : Flow) (calls : List Call) (o : Order)
    → (b ≡ a → ⊥) → IsFlow a f o → IsFlow b g o → f.virtual_time < 2 ^ 128 → g.virtual_time < 2 ^ 128 → f.reservation_interval ≡ 0
    → AllByRecursion (IsCostUpTo most) calls → IsThroughout a calls o → IsThroughout b calls o → time_of a (run calls o) < 2 ^ 128 - 1
    → given a calls o * f.step ≤ given b calls o * g.step + (g.virtual_time - f.virtual_time) + lead most f g

-- The step is the inverse of the weight: over it, it comes to 2^60, but for less than the weight.
abbrev pub IsStepOfWeight : Type 0
IsStepOfWeight = (weight : ℕ) → 1 ≤ weight → (step_of weight * weight ≤ 2 ^ 60) × (2 ^ 60 < step_of weight * weight + weight)

-- An export whose reservation is late goes on.
abbrev pub IsLateServed : Type 0
IsLateServed = (e now : ℕ) (f : Flow) (o : Order) → IsFlow e f o → late_at now f ≡ true → answer e now o ≡ Go

-- Where one that contends is late, one that isn't waits.
abbrev pub IsLateWaitedFor : Type 0
IsLateWaitedFor =
    (e l now : ℕ) (f g : Flow) (o : Order)
    → (l ≡ e → ⊥) → IsFlow e f o → IsFlow l g o → contends_at now g ≡ true → late_at now g ≡ true → late_at now f ≡ false
    → is_go (answer e now o) ≡ false

-- it has something at hand, or lingers
abbrev pub IsAtHand : ℕ → Flow → Type 0
IsAtHand now f = (0 < f.sessions) ⊎ (now < f.lingers_until)

-- an export that has something at hand or lingers, and goes on
pub record OneGoes (now : ℕ) (o : Order) : Type 0 where
  pub export : ℕ
  pub flow : Flow
  pub there : IsFlow export flow o
  pub at_hand : IsAtHand now flow
  pub goes : answer export now o ≡ Go

-- Where one has something at hand or lingers, one that has or does goes on.
abbrev pub IsNoneStuck : Type 0
IsNoneStuck = (e now : ℕ) (f : Flow) (o : Order) → IsFlow e f o → IsAtHand now f → OneGoes now o

-- Once its last session left, and it doesn't linger, an export counts for the others as any that has nothing at hand.
abbrev pub IsLeftAlone : Type 0
IsLeftAlone =
    (e x now : ℕ) (f g : Flow) (o : Order)
    → (x ≡ e → ⊥) → IsFlow e f o → f.sessions ≤ 1 → f.lingers_until ≤ now → g.sessions ≡ 0 → g.lingers_until ≤ now
    → answer x now (left e o) ≡ answer x now (placed e g o)

-- One that comes back is behind the clock by 8,192 of its units at most.
abbrev pub IsOwedLittle : Type 0
IsOwedLittle =
    (e now : ℕ) (f : Flow) (o : Order) → IsFlow e f o → contends_at now f ≡ false
    → o.clock ≤ time_of e (entered e now o) + 8192 * f.step

-- None is ever ahead of the clock by more than 8,192 of its units and a turn.
abbrev pub IsOwingLittle : Type 0
IsOwingLittle =
    (most e : ℕ) (f : Flow) (rates : List Rates) (calls : List Call) → AllByRecursion (IsCostUpTo most) calls
    → IsFlow e f (run calls (fresh rates))
    → f.virtual_time ≤ (run calls (fresh rates)).clock + 8192 * f.step + most * f.step
