-- The least of what contends, and whether one of it is late.
use Rattle.std.proofs.Common.{◌≡◌, ℕ, zero, suc, ◌*◌, ◌≤◌, Bool, true, false, List, [], ◌∷◌, Some, refl, sym, ap, ◌∙◌, arith}
use Rattle.std.specs.Prelude.{◌||◌, slice_get, slice_set}
use Rattle.turn_order.specs.declared.flow.Flow.{Flow}
use Rattle.turn_order.specs.declared.contenders.Contenders.{Contenders}
use Rattle.turn_order.specs.Flows.{contends_at, late_at}
use Rattle.turn_order.specs.Contenders.{joined, gathered, among, slack_of}
use Rattle.turn_order.proofs.Cases.{if_told, true_false}

-- what a flow starts from
abbrev pub own : Flow → Contenders
own f = record { first = f.virtual_time; step = f.step; late = false }

or_true : (b : Bool) → (b || true) ≡ true
or_true true = refl
or_true false = refl

-- ---- the least virtual time

joined_first : (now : ℕ) (f : Flow) (all : Contenders) → (joined now f all).first ≤ all.first
joined_first now f all = if_told (λ (c : Contenders). c.first ≤ all.first) (contends_at now f) (λ _. omega arith) (λ _. omega arith)

joined_time : (now : ℕ) (f : Flow) (all : Contenders) → contends_at now f ≡ true → (joined now f all).first ≤ f.virtual_time
joined_time now f all t = if_told (λ (c : Contenders). c.first ≤ f.virtual_time) (contends_at now f) (λ _. omega arith) (λ nay. true_false (sym t ∙ nay))

pub first_below : (now : ℕ) (fs : List Flow) (all : Contenders) → (gathered now fs all).first ≤ all.first
first_below now [] all = omega arith
first_below now (f ∷ fs) all = omega (arith, first_below now fs (joined now f all), joined_first now f all)

pub first_of : (now : ℕ) (fs : List Flow) (all : Contenders) (i : ℕ) (g : Flow) → slice_get fs i ≡ Some g → contends_at now g ≡ true → (gathered now fs all).first ≤ g.virtual_time
first_of now [] all i g h t = absurd (cc)
first_of now (f ∷ fs) all zero g h t =
    let e : f ≡ g = cc in
    omega (arith, first_below now fs (joined now f all), joined_time now f all (ap (contends_at now) e ∙ t), ap (λ (k : Flow). k.virtual_time) e)
first_of now (f ∷ fs) all (suc i) g h t = first_of now fs (joined now f all) i g h t

-- ---- the least step

joined_step : (now : ℕ) (f : Flow) (all : Contenders) → (joined now f all).step ≤ all.step
joined_step now f all = if_told (λ (c : Contenders). c.step ≤ all.step) (contends_at now f) (λ _. omega arith) (λ _. omega arith)

joined_own : (now : ℕ) (f : Flow) (all : Contenders) → contends_at now f ≡ true → (joined now f all).step ≤ f.step
joined_own now f all t = if_told (λ (c : Contenders). c.step ≤ f.step) (contends_at now f) (λ _. omega arith) (λ nay. true_false (sym t ∙ nay))

pub step_below : (now : ℕ) (fs : List Flow) (all : Contenders) → (gathered now fs all).step ≤ all.step
step_below now [] all = omega arith
step_below now (f ∷ fs) all = omega (arith, step_below now fs (joined now f all), joined_step now f all)

pub step_of_one : (now : ℕ) (fs : List Flow) (all : Contenders) (i : ℕ) (g : Flow) → slice_get fs i ≡ Some g → contends_at now g ≡ true → (gathered now fs all).step ≤ g.step
step_of_one now [] all i g h t = absurd (cc)
step_of_one now (f ∷ fs) all zero g h t =
    let e : f ≡ g = cc in
    omega (arith, step_below now fs (joined now f all), joined_own now f all (ap (contends_at now) e ∙ t), ap (λ (k : Flow). k.step) e)
step_of_one now (f ∷ fs) all (suc i) g h t = step_of_one now fs (joined now f all) i g h t

-- the slack is 8,192 units of one's own at most
pub slack_small : (now : ℕ) (fs : List Flow) (f : Flow) → slack_of (among now fs f) f ≤ 8192 * f.step
slack_small now fs f = omega (arith, step_below now fs (own f))

-- ---- a late one

joined_late : (now : ℕ) (f : Flow) (all : Contenders) → all.late ≡ true → (joined now f all).late ≡ true
joined_late now f all h = if_told (λ (c : Contenders). c.late ≡ true) (contends_at now f) (λ _. ap (λ b. b || late_at now f) h) (λ _. h)

joined_late_one : (now : ℕ) (f : Flow) (all : Contenders) → contends_at now f ≡ true → late_at now f ≡ true → (joined now f all).late ≡ true
joined_late_one now f all t l = if_told (λ (c : Contenders). c.late ≡ true) (contends_at now f) (λ _. ap (λ b. all.late || b) l ∙ or_true all.late) (λ nay. true_false (sym t ∙ nay))

pub late_stays : (now : ℕ) (fs : List Flow) (all : Contenders) → all.late ≡ true → (gathered now fs all).late ≡ true
late_stays now [] all h = h
late_stays now (f ∷ fs) all h = late_stays now fs (joined now f all) (joined_late now f all h)

pub late_of : (now : ℕ) (fs : List Flow) (all : Contenders) (i : ℕ) (g : Flow) → slice_get fs i ≡ Some g → contends_at now g ≡ true → late_at now g ≡ true → (gathered now fs all).late ≡ true
late_of now [] all i g h t l = absurd (cc)
late_of now (f ∷ fs) all zero g h t l =
    let e : f ≡ g = cc in
    late_stays now fs (joined now f all) (joined_late_one now f all (ap (contends_at now) e ∙ t) (ap (late_at now) e ∙ l))
late_of now (f ∷ fs) all (suc i) g h t l = late_of now fs (joined now f all) i g h t l

-- ---- a flow that isn't seen

pub joined_none : (now : ℕ) (f : Flow) (all : Contenders) → contends_at now f ≡ false → joined now f all ≡ all
joined_none now f all nay = if_told (λ (c : Contenders). c ≡ all) (contends_at now f) (λ t. true_false (sym t ∙ nay)) (λ _. refl)

pub gathered_alike : (now : ℕ) (fs : List Flow) (e : ℕ) (f g : Flow) → ((all : Contenders) → joined now f all ≡ joined now g all) → (all : Contenders) → gathered now (slice_set fs e f) all ≡ gathered now (slice_set fs e g) all
gathered_alike now [] e f g h all = refl
gathered_alike now (x ∷ fs) zero f g h all = ap (gathered now fs) (h all)
gathered_alike now (x ∷ fs) (suc e) f g h all = gathered_alike now fs e f g h (joined now x all)
