-- Whether a flow goes on, and what a turn makes of it.
use Rattle.std.proofs.Common.{◌≡◌, ℕ, ◌+◌, ◌-◌, ◌*◌, ◌^◌, ◌<◌, ◌≤◌, max, Bool, true, false, if◌then◌else◌, refl, sym, ap, ◌∙◌, arith}
use Rattle.std.specs.Prelude.{◌&&◌, nat_lt, nat_le}
use Rattle.std.proofs.lemmas.Bool.Decides.{nat_tests}
use Rattle.turn_order.specs.declared.flow.Flow.{Flow}
use Rattle.turn_order.specs.declared.contenders.Contenders.{Contenders}
use Rattle.turn_order.specs.declared.Turn.TheVariants.{Go, Wait}
use Rattle.turn_order.specs.Flows.{contends_at, due_at, late_at, wait_of}
use Rattle.turn_order.specs.Contenders.{slack_of, allowance, goes_on, turn_of, time_after}
use Rattle.turn_order.specs.Orders.{Order, back}
use Rattle.turn_order.specs.Calls.{is_go}
use Rattle.turn_order.proofs.Cases.{if_told, true_false}

late_due_by : (r at now : ℕ) → (nat_lt 0 r && nat_le at (now - 1000000)) ≡ true → (nat_lt 0 r && nat_le at now) ≡ true
late_due_by r at now h = grind (arith, nat_tests)

-- a late reservation is due
pub late_due : (now : ℕ) (f : Flow) → late_at now f ≡ true → due_at now f ≡ true
late_due now f h = late_due_by f.reservation_interval f.reserved_at now h

-- without a reservation none is due
pub none_due : (now : ℕ) (f : Flow) → f.reservation_interval ≡ 0 → due_at now f ≡ false
none_due now f h = ap (λ r. nat_lt 0 r && nat_le f.reserved_at now) h

within_by : (v first a s : ℕ) → nat_le (v - first) a ≡ true → a ≤ s → v ≤ first + s
within_by v first a s h l = grind (arith, nat_tests)

allowed : (all : Contenders) (f : Flow) → allowance all f ≤ slack_of all f
allowed all f = if_told (λ n. n ≤ slack_of all f) f.stopped (λ _. omega arith) (λ _. omega arith)

-- ---- the tests of goes_on, one after another

abbrev tested : Bool → Bool → Bool → Bool → Bool
tested late other due near = if late then true else if other then false else if due then true else near

tested_near : (l o d n : Bool) → (l ≡ true → d ≡ true) → d ≡ false → tested l o d n ≡ true → n ≡ true
tested_near true o d n ld nay h = true_false (sym (ld refl) ∙ nay)
tested_near false true d n ld nay h = true_false (sym h)
tested_near false false true n ld nay h = true_false nay
tested_near false false false n ld nay h = h

tested_late : (l o d n : Bool) → l ≡ true → tested l o d n ≡ true
tested_late true o d n h = refl
tested_late false o d n h = true_false (sym h)

tested_other : (l o d n : Bool) → l ≡ false → o ≡ true → tested l o d n ≡ false
tested_other true o d n h k = true_false h
tested_other false true d n h k = refl
tested_other false false d n h k = true_false (sym k)

tested_first : (l o d n : Bool) → o ≡ false → n ≡ true → tested l o d n ≡ true
tested_first true o d n h k = refl
tested_first false true d n h k = true_false h
tested_first false false true n h k = refl
tested_first false false false n h k = k

-- who goes on by weight isn't ahead by more than the slack
pub goes_by_weight : (now : ℕ) (all : Contenders) (f : Flow) → goes_on now all f ≡ true → due_at now f ≡ false → f.virtual_time ≤ all.first + slack_of all f
goes_by_weight now all f g nay =
    within_by f.virtual_time all.first (allowance all f) (slack_of all f)
    (tested_near (late_at now f) all.late (due_at now f) (nat_le (f.virtual_time - all.first) (allowance all f)) (late_due now f) nay g) (allowed all f)

-- one that is late goes on
pub late_goes : (now : ℕ) (all : Contenders) (f : Flow) → late_at now f ≡ true → goes_on now all f ≡ true
late_goes now all f l = tested_late (late_at now f) all.late (due_at now f) (nat_le (f.virtual_time - all.first) (allowance all f)) l

-- where another is late, one that isn't doesn't
pub late_waits : (now : ℕ) (all : Contenders) (f : Flow) → late_at now f ≡ false → all.late ≡ true → goes_on now all f ≡ false
late_waits now all f nay l = tested_other (late_at now f) all.late (due_at now f) (nat_le (f.virtual_time - all.first) (allowance all f)) nay l

no_more : (v first a : ℕ) → v ≤ first → nat_le (v - first) a ≡ true
no_more v first a h = grind (arith, nat_tests)

-- where none is late, the first goes on
pub first_goes : (now : ℕ) (all : Contenders) (f : Flow) → all.late ≡ false → f.virtual_time ≤ all.first → goes_on now all f ≡ true
first_goes now all f nay h = tested_first (late_at now f) all.late (due_at now f) (nat_le (f.virtual_time - all.first) (allowance all f)) nay (no_more f.virtual_time all.first (allowance all f) h)

told : (b : Bool) (n : ℕ) → is_go (if b then Go else Wait n) ≡ b
told true n = refl
told false n = refl

pub turn_told : (now : ℕ) (all : Contenders) (f : Flow) → is_go (turn_of now all f) ≡ goes_on now all f
turn_told now all f = told (goes_on now all f) (wait_of now f)

pub turn_goes : (now : ℕ) (all : Contenders) (f : Flow) → goes_on now all f ≡ true → turn_of now all f ≡ Go
turn_goes now all f g = ap (λ (b : Bool). if b then Go else Wait (wait_of now f)) g

-- ---- a flow that is seen

-- one that contends keeps its time
pub back_time : (now : ℕ) (o : Order) (f : Flow) → contends_at now f ≡ true → (back now o f).virtual_time ≡ f.virtual_time
back_time now o f t = if_told (λ (v : ℕ). v ≡ f.virtual_time) (contends_at now f) (λ _. refl) (λ nay. true_false (sym t ∙ nay))

-- any other's time isn't raised above the clock
pub back_below : (now : ℕ) (o : Order) (f : Flow) → (back now o f).virtual_time ≤ max f.virtual_time o.clock
back_below now o f = if_told (λ (v : ℕ). v ≤ max f.virtual_time o.clock) (contends_at now f) (λ _. omega arith) (λ _. omega arith)

-- ---- the time after a turn

pub time_up : (now cost : ℕ) (all : Contenders) (f : Flow) → f.virtual_time < 2 ^ 128 → f.virtual_time ≤ time_after now cost all f
time_up now cost all f h = if_told (λ (v : ℕ). f.virtual_time ≤ v) (due_at now f) (λ _. omega arith) (λ _. omega arith)

pub time_most : (now cost : ℕ) (all : Contenders) (f : Flow) → time_after now cost all f ≤ f.virtual_time + cost * f.step
time_most now cost all f = if_told (λ (v : ℕ). v ≤ f.virtual_time + cost * f.step) (due_at now f) (λ _. omega arith) (λ _. omega arith)

pub time_low : (now cost : ℕ) (all : Contenders) (f : Flow) → f.virtual_time < 2 ^ 128 → time_after now cost all f < 2 ^ 128
time_low now cost all f h = if_told (λ (v : ℕ). v < 2 ^ 128) (due_at now f) (λ _. omega arith) (λ _. omega arith)

pub time_exact : (now cost : ℕ) (all : Contenders) (f : Flow) → due_at now f ≡ false → time_after now cost all f < 2 ^ 128 - 1 → f.virtual_time + cost * f.step ≤ time_after now cost all f
time_exact now cost all f nay =
    if_told (λ (v : ℕ). v < 2 ^ 128 - 1 → f.virtual_time + cost * f.step ≤ v) (due_at now f) (λ d _. true_false (sym d ∙ nay)) (λ _ h. omega arith)

-- a turn by reservation takes nobody further ahead than the slack
pub time_reserved : (now cost : ℕ) (all : Contenders) (f : Flow) → due_at now f ≡ true → time_after now cost all f ≤ max f.virtual_time (all.first + slack_of all f)
time_reserved now cost all f d =
    if_told (λ (v : ℕ). v ≤ max f.virtual_time (all.first + slack_of all f)) (due_at now f) (λ _. omega arith) (λ nay. true_false (sym d ∙ nay))
