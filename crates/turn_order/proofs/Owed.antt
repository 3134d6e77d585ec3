-- How far a flow is behind the clock or ahead of it.
use Rattle.std.proofs.Common.{◌≡◌, ℕ, zero, suc, ◌+◌, ◌-◌, ◌*◌, ◌≤◌, max, Bool, true, false, List, [], ◌∷◌, map, Option, Some, refl, sym, ap, subst, ◌∙◌, inl, inr, arith}
use Rattle.std.specs.Prelude.{◌⊎◌, ◌==◌, nat_le, slice_get, slice_set}
use Rattle.std.specs.List.{AllByRecursion}
use Rattle.std.proofs.Math.Nat.{mul-le-mul_right}
use Rattle.std.proofs.lemmas.Bool.Decides.{eqb_tells}
use Rattle.nbd_base.specs.Words.{when_some}
use Rattle.turn_order.specs.declared.Rates.{Rates}
use Rattle.turn_order.specs.declared.flow.Flow.{Flow}
use Rattle.turn_order.specs.Flows.{contends_at, due_at, flow_of, one_more, tuned}
use Rattle.turn_order.specs.Contenders.{among, credit_of, goes_on, time_after, charged}
use Rattle.turn_order.specs.Orders.{Order, placed, back, entered, turned, asked}
use Rattle.turn_order.specs.Calls.{Call, after, run, fresh, IsCostUpTo}
use Rattle.turn_order.specs.Calls.Call.{Enter, Leave, Begin_wait, End_wait, Linger, Limit, Retune, Ask}
use Rattle.turn_order.specs.Laws.{IsFlow, time_of, IsOwedLittle, IsOwingLittle}
use Rattle.turn_order.proofs.Cases.{if_told, some_told, true_false}
use Rattle.turn_order.proofs.Puts.{get_same, get_other, put_here}
use Rattle.turn_order.proofs.Gathered.{slack_small}
use Rattle.turn_order.proofs.Turns.{goes_by_weight, back_below, time_most, time_reserved}

-- ---- who comes back

credit_small : (now : ℕ) (fs : List Flow) (f : Flow) → credit_of now (among now fs f) f ≤ 8192 * f.step
credit_small now fs f = if_told (λ (n : ℕ). n ≤ 8192 * f.step) (nat_le (now - f.seen) 5000000) (λ _. slack_small now fs f) (λ _. omega arith)

raised : (now : ℕ) (f : Flow) (o : Order) → contends_at now f ≡ false → o.clock ≤ (back now o f).virtual_time + 8192 * f.step
raised now f o nay =
    if_told (λ (v : ℕ). o.clock ≤ v + 8192 * f.step) (contends_at now f) (λ t. true_false (sym t ∙ nay)) (λ _. omega (arith, credit_small now o.flows f))

pub owed_little : IsOwedLittle
owed_little e now f o h nay =
    let there = put_here o e f (λ (k : Flow). record (back now o k) { sessions = one_more k.sessions }) h in
    let time : time_of e (entered e now o) ≡ (back now o f).virtual_time = ap (λ (s : Option Flow). when_some s (λ (k : Flow). k.virtual_time) 0) there in
    omega (arith, time, raised now f o nay)

-- ---- who is ahead

pub record IsWithin (most clock : ℕ) (f : Flow) : Type 0 where
  pub within : f.virtual_time ≤ clock + 8192 * f.step + most * f.step

pub record AreWithin (most : ℕ) (o : Order) : Type 0 where
  pub each : (e : ℕ) (f : Flow) → IsFlow e f o → IsWithin most o.clock f

-- a flow that is within takes the place of another
placed_within : (most e : ℕ) (k f : Flow) (o : Order) → IsFlow e f o → AreWithin most o → IsWithin most o.clock k → AreWithin most (placed e k o)
placed_within most e k f o here all one = record { each = λ x g h. go x g h (eqb_tells x e) }
  where
    go : (x : ℕ) (g : Flow) → IsFlow x g (placed e k o) → (((x == e) ≡ true) × (x ≡ e)) ⊎ (((x == e) ≡ false) × (x ≡ e → ⊥)) → IsWithin most o.clock g
    go x g h (inl (t, q)) =
        let same : Some k ≡ Some g = sym (get_same o.flows e f k here) ∙ (ap (slice_get (slice_set o.flows e k)) (sym q) ∙ h) in
        let is : k ≡ g = cc in
        subst (IsWithin most o.clock) is one
    go x g h (inr (t, ne)) = all.each x g (sym (get_other o.flows e x k ne) ∙ h)

-- the clock goes on
clock_on : (most n : ℕ) (o : Order) → o.clock ≤ n → AreWithin most o → AreWithin most (record o { clock = n })
clock_on most n o h all = record { each = λ e f here. record { within = omega (arith, (all.each e f here).within) } }

changed_within : (most e : ℕ) (o : Order) (h : Flow → Flow) → AreWithin most o → ((f : Flow) → IsFlow e f o → IsWithin most o.clock (h f)) → AreWithin most (when_some (slice_get o.flows e) (λ f. placed e (h f) o) o)
changed_within most e o h all one =
    some_told (AreWithin most) (slice_get o.flows e) (λ f here. placed_within most e (h f) f o here all (one f here)) (λ _. all)

back_within : (most now : ℕ) (o : Order) (f : Flow) → IsWithin most o.clock f → IsWithin most o.clock (back now o f)
back_within most now o f w = record { within = omega (arith, w.within, back_below now o f) }

charged_within : (most now cost clock : ℕ) (fs : List Flow) (f : Flow) → cost ≤ most → goes_on now (among now fs f) f ≡ true → IsWithin most clock f → IsWithin most (max clock (among now fs f).first) (charged now cost (among now fs f) f)
charged_within most now cost clock fs f few g w =
    record { within = go (due_at now f) refl }
  where
    go : (b : Bool) → due_at now f ≡ b → time_after now cost (among now fs f) f ≤ max clock (among now fs f).first + 8192 * f.step + most * f.step
    go true d = omega (arith, w.within, slack_small now fs f, time_reserved now cost (among now fs f) f d)
    go false d = omega (arith, slack_small now fs f, time_most now cost (among now fs f) f, goes_by_weight now (among now fs f) f g d, mul-le-mul_right f.step few)

turned_within : (most e now cost : ℕ) (f : Flow) (o : Order) → cost ≤ most → IsFlow e f o → AreWithin most o → AreWithin most (turned e now cost f o)
turned_within most e now cost f o few here all =
    if_told (AreWithin most) (goes_on now (among now o.flows f) f)
    (λ g. placed_within most e (charged now cost (among now o.flows f) f) f (record o { clock = max o.clock (among now o.flows f).first }) here
    (clock_on most (max o.clock (among now o.flows f).first) o (omega arith) all)
    (charged_within most now cost o.clock o.flows f few g (all.each e f here)))
    (λ _. placed_within most e (record f { stopped = true }) f o here all (record { within = (all.each e f here).within }))

asked_within : (most e now cost : ℕ) (o : Order) → cost ≤ most → AreWithin most o → AreWithin most (asked e now cost o)
asked_within most e now cost o few all =
    some_told (AreWithin most) (slice_get o.flows e)
    (λ f here. turned_within most e now cost (back now o f) (placed e (back now o f) o) few (get_same o.flows e f (back now o f) here)
    (placed_within most e (back now o f) f o here all (back_within most now o f (all.each e f here))))
    (λ _. all)

after_within : (most : ℕ) (c : Call) (o : Order) → IsCostUpTo most c → AreWithin most o → AreWithin most (after c o)
after_within most (Enter e now) o few all = changed_within most e o (λ f. record (back now o f) { sessions = one_more f.sessions }) all (λ f here. record { within = (back_within most now o f (all.each e f here)).within })
after_within most (Leave e) o few all = changed_within most e o (λ f. record f { sessions = f.sessions - 1 }) all (λ f here. record { within = (all.each e f here).within })
after_within most (Begin_wait e) o few all = changed_within most e o (λ f. record f { waiting = one_more f.waiting }) all (λ f here. record { within = (all.each e f here).within })
after_within most (End_wait e) o few all = changed_within most e o (λ f. record f { waiting = f.waiting - 1 }) all (λ f here. record { within = (all.each e f here).within })
after_within most (Linger e until) o few all = changed_within most e o (λ f. record f { lingers_until = max f.lingers_until until }) all (λ f here. record { within = (all.each e f here).within })
after_within most (Limit e until) o few all = changed_within most e o (λ f. record f { limited_until = max f.limited_until until }) all (λ f here. record { within = (all.each e f here).within })
after_within most (Retune e rates) o few all = changed_within most e o (tuned rates o.clock) all (λ f here. record { within = omega arith })
after_within most (Ask e now cost) o few all = asked_within most e now cost o few all

run_within : (most : ℕ) (calls : List Call) (o : Order) → AllByRecursion (IsCostUpTo most) calls → AreWithin most o → AreWithin most (run calls o)
run_within most [] o few all = all
run_within most (c ∷ cs) o few all = run_within most cs (after c o) few.1 (after_within most c o few.0 all)

fresh_time : (rates : List Rates) (e : ℕ) (f : Flow) → slice_get (map flow_of rates) e ≡ Some f → f.virtual_time ≡ 0
fresh_time [] e f h = absurd (cc)
fresh_time (r ∷ rates) zero f h =
    let e : f ≡ flow_of r = cc in
    ap (λ (k : Flow). k.virtual_time) e
fresh_time (r ∷ rates) (suc e) f h = fresh_time rates e f h

fresh_within : (most : ℕ) (rates : List Rates) → AreWithin most (fresh rates)
fresh_within most rates = record { each = λ e f h. record { within = omega (arith, fresh_time rates e f h) } }

pub owing_little : IsOwingLittle
owing_little most e f rates calls few h = ((run_within most calls (fresh rates) few (fresh_within most rates)).each e f h).within
