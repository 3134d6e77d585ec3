-- What one call makes of one flow that contends.
use Rattle.std.proofs.Common.{◌≡◌, ℕ, ◌+◌, ◌-◌, ◌*◌, ◌^◌, ◌<◌, ◌≤◌, max, Bool, true, false, List, Option, Some, if◌then◌else◌, refl, sym, ap, subst, ◌∙◌, inl, inr, arith}
use Rattle.std.specs.Prelude.{◌⊎◌, ◌==◌, slice_get, slice_set}
use Rattle.std.proofs.Math.Nat.{mul-le-mul_right}
use Rattle.std.proofs.lemmas.Bool.Decides.{eqb_tells}
use Rattle.std.proofs.lemmas.Bool.{eq-eqb}
use Rattle.nbd_base.specs.Words.{when_some}
use Rattle.turn_order.specs.declared.flow.Flow.{Flow}
use Rattle.turn_order.specs.declared.contenders.Contenders.{Contenders}
use Rattle.turn_order.specs.Flows.{contends_at, one_more, tuned}
use Rattle.turn_order.specs.Contenders.{among, goes_on, time_after, charged}
use Rattle.turn_order.specs.Orders.{Order, placed, back, turned, asked, answer}
use Rattle.turn_order.specs.Calls.{Call, after, is_go, given_by, IsCostUpTo}
use Rattle.turn_order.specs.Calls.Call.{Enter, Leave, Begin_wait, End_wait, Linger, Limit, Retune, Ask}
use Rattle.turn_order.specs.Laws.{IsFlow, IsContending, IsContendingAt, lead}
use Rattle.turn_order.proofs.Cases.{if_told, some_told}
use Rattle.turn_order.proofs.Puts.{get_same, get_other, put_here, put_other}
use Rattle.turn_order.proofs.Gathered.{own, step_below, step_of_one, first_of}
use Rattle.turn_order.proofs.Turns.{none_due, goes_by_weight, back_time, time_up, time_most, time_low, time_exact, turn_told}
use Rattle.turn_order.proofs.Late.{answer_is}

-- flow x was f and is k, and was given n
pub record Moves (most x n : ℕ) (c : Call) (o : Order) (f k : Flow) : Type 0 where
  pub there : IsFlow x k (after c o)
  pub step : k.step ≡ f.step
  pub reservation : k.reservation_interval ≡ f.reservation_interval
  pub up : f.virtual_time ≤ k.virtual_time
  pub most_time : k.virtual_time ≤ f.virtual_time + n * f.step
  pub low : k.virtual_time < 2 ^ 128
  pub exact : f.reservation_interval ≡ 0 → k.virtual_time < 2 ^ 128 - 1 → f.virtual_time + n * f.step ≤ k.virtual_time
  pub led : (b : ℕ) (g : Flow) → (b ≡ x → ⊥) → IsFlow b g o → IsContendingAt b c o → f.reservation_interval ≡ 0 → k.virtual_time ≤ max f.virtual_time (g.virtual_time + lead most f g)

-- a call that gives it nothing
still : (most x : ℕ) (c : Call) (o : Order) (f k : Flow) → IsFlow x k (after c o) → k.step ≡ f.step → k.reservation_interval ≡ f.reservation_interval → k.virtual_time ≡ f.virtual_time → f.virtual_time < 2 ^ 128 → Moves most x 0 c o f k
still most x c o f k there step res time low = record {
  there = there;
  step = step;
  reservation = res;
  up = omega arith;
  most_time = omega arith;
  low = omega arith;
  exact = λ _ _. omega arith;
  led = λ b g _ _ _ _. omega arith;
}

contends : (x now : ℕ) (f : Flow) (o : Order) → IsFlow x f o → IsContending x now o → contends_at now f ≡ true
contends x now f o h t = sym (ap (λ (s : Option Flow). when_some s (contends_at now) false) h) ∙ t

-- a call that changes the flow of export e by h, which leaves its time where e is x
changed : (most e x : ℕ) (c : Call) (o : Order) (f : Flow) (h : Flow → Flow) → after c o ≡ when_some (slice_get o.flows e) (λ k. placed e (h k) o) o
    → (h f).step ≡ f.step → (h f).reservation_interval ≡ f.reservation_interval → (h f).virtual_time ≡ f.virtual_time
    → IsFlow x f o → f.virtual_time < 2 ^ 128 → (k : Flow) × Moves most x 0 c o f k
changed most e x c o f h is step res time here low = go (eqb_tells x e)
  where
    go : (((x == e) ≡ true) × (x ≡ e)) ⊎ (((x == e) ≡ false) × (x ≡ e → ⊥)) → (k : Flow) × Moves most x 0 c o f k
    go (inl (t, q)) =
        let there : IsFlow x (h f) (after c o) = ap (λ (p : Order). slice_get p.flows x) (is ∙ ap (λ (i : ℕ). when_some (slice_get o.flows i) (λ k. placed i (h k) o) o) (sym q)) ∙ put_here o x f h here in
        (h f, still most x c o f (h f) there step res time low)
    go (inr (t, ne)) = (f, still most x c o f f (ap (λ (p : Order). slice_get p.flows x) is ∙ (put_other o e x h ne ∙ here)) refl refl refl low)

-- ---- a call that asks

asked_is : (x now cost : ℕ) (o : Order) (f : Flow) → IsFlow x f o → asked x now cost o ≡ turned x now cost (back now o f) (placed x (back now o f) o)
asked_is x now cost o f h = ap (λ (s : Option Flow). when_some s (λ (k : Flow). turned x now cost (back now o k) (placed x (back now o k) o)) o) h

answer_told : (x now : ℕ) (o : Order) (f : Flow) → IsFlow x f o → is_go (answer x now o) ≡ goes_on now (among now (slice_set o.flows x (back now o f)) (back now o f)) (back now o f)
answer_told x now o f h = ap is_go (answer_is x now o f h) ∙ turn_told now (among now (slice_set o.flows x (back now o f)) (back now o f)) (back now o f)

module _ (most x now cost : ℕ) (o : Order) (f : Flow) (here : IsFlow x f o) (low : f.virtual_time < 2 ^ 128) (t : contends_at now f ≡ true) (few : cost ≤ most) where
  abbrev k : Flow
  k = back now o f

  abbrev fs : List Flow
  fs = slice_set o.flows x k

  abbrev all : Contenders
  all = among now fs k

  same_time : k.virtual_time ≡ f.virtual_time
  same_time = back_time now o f t

  it_there : slice_get fs x ≡ Some k
  it_there = get_same o.flows x f k here

  went_there : (b : Bool) → goes_on now all k ≡ b → slice_get (asked x now cost o).flows x ≡ slice_get (if b then (record { flows = slice_set fs x (charged now cost all k); clock = max o.clock all.first }) else placed x (record k { stopped = true }) (placed x k o)).flows x
  went_there b is = ap (λ (p : Order). slice_get p.flows x) (asked_is x now cost o f here) ∙ ap (λ (c : Bool). slice_get (if c then (record { flows = slice_set fs x (charged now cost all k); clock = max o.clock all.first }) else placed x (record k { stopped = true }) (placed x k o)).flows x) is

  led_by : goes_on now all k ≡ true → (b : ℕ) (g : Flow) → (b ≡ x → ⊥) → IsFlow b g o → IsContending b now o → f.reservation_interval ≡ 0 → time_after now cost all k ≤ max f.virtual_time (g.virtual_time + lead most f g)
  led_by goes b g ne there near none =
      let other : slice_get fs b ≡ Some g = get_other o.flows x b k ne ∙ there in
      let at_hand = contends b now g o there near in
      omega (arith, same_time, time_most now cost all k, goes_by_weight now all k goes (none_due now k none), first_of now fs (own k) b g other at_hand, step_of_one now fs (own k) b g other at_hand, step_below now fs (own k), mul-le-mul_right f.step few)

  pub asked_goes : goes_on now all k ≡ true → Moves most x cost (Ask x now cost) o f (charged now cost all k)
  asked_goes goes = record {
    there = went_there true goes ∙ get_same fs x k (charged now cost all k) it_there;
    step = refl;
    reservation = refl;
    up = omega (arith, same_time, time_up now cost all k (omega (arith, same_time)));
    most_time = omega (arith, same_time, time_most now cost all k);
    low = time_low now cost all k (omega (arith, same_time));
    exact = λ none below. omega (arith, same_time, time_exact now cost all k (none_due now k none) below);
    led = led_by goes;
  }

  pub asked_waits : goes_on now all k ≡ false → Moves most x 0 (Ask x now cost) o f (record k { stopped = true })
  asked_waits waits = still most x (Ask x now cost) o f (record k { stopped = true }) (went_there false waits ∙ get_same fs x k (record k { stopped = true }) it_there) refl refl same_time low

-- what an export is given where it asks, by what it is answered
given_told : (x now cost : ℕ) (o : Order) (f : Flow) (b : Bool) → IsFlow x f o → goes_on now (among now (slice_set o.flows x (back now o f)) (back now o f)) (back now o f) ≡ b → given_by x (Ask x now cost) o ≡ (if b then cost else 0)
given_told x now cost o f b here is =
    ap (λ (c : Bool). if c then (if is_go (answer x now o) then cost else 0) else 0) (eq-eqb x x refl)
    ∙ ap (λ (c : Bool). if c then cost else 0) (answer_told x now o f here ∙ is)

asks : (most x now cost : ℕ) (o : Order) (f : Flow) → IsFlow x f o → f.virtual_time < 2 ^ 128 → contends_at now f ≡ true → cost ≤ most → (k : Flow) × Moves most x (given_by x (Ask x now cost) o) (Ask x now cost) o f k
asks most x now cost o f here low t few = go (goes_on now (among now (slice_set o.flows x (back now o f)) (back now o f)) (back now o f)) refl
  where
    go : (b : Bool) → goes_on now (among now (slice_set o.flows x (back now o f)) (back now o f)) (back now o f) ≡ b → (k : Flow) × Moves most x (given_by x (Ask x now cost) o) (Ask x now cost) o f k
    go true is =
        let k = charged now cost (among now (slice_set o.flows x (back now o f)) (back now o f)) (back now o f) in
        (k, subst (λ (n : ℕ). Moves most x n (Ask x now cost) o f k) (sym (given_told x now cost o f true here is)) (asked_goes most x now cost o f here low t few is))
    go false is =
        let k : Flow = record (back now o f) { stopped = true } in
        (k, subst (λ (n : ℕ). Moves most x n (Ask x now cost) o f k) (sym (given_told x now cost o f false here is)) (asked_waits most x now cost o f here low t few is))

ask_other : (e x now cost : ℕ) (o : Order) → (x ≡ e → ⊥) → slice_get (asked e now cost o).flows x ≡ slice_get o.flows x
ask_other e x now cost o ne =
    some_told (λ (p : Order). slice_get p.flows x ≡ slice_get o.flows x) (slice_get o.flows e)
    (λ f _. if_told (λ (p : Order). slice_get p.flows x ≡ slice_get o.flows x) (goes_on now (among now (slice_set o.flows e (back now o f)) (back now o f)) (back now o f))
    (λ _. get_other (slice_set o.flows e (back now o f)) e x (charged now cost (among now (slice_set o.flows e (back now o f)) (back now o f)) (back now o f)) ne ∙ get_other o.flows e x (back now o f) ne)
    (λ _. get_other (slice_set o.flows e (back now o f)) e x (record (back now o f) { stopped = true }) ne ∙ get_other o.flows e x (back now o f) ne))
    (λ _. refl)

moved_ask : (most x e now cost : ℕ) (o : Order) (f : Flow) → IsFlow x f o → f.virtual_time < 2 ^ 128 → contends_at now f ≡ true → cost ≤ most → (k : Flow) × Moves most x (given_by x (Ask e now cost) o) (Ask e now cost) o f k
moved_ask most x e now cost o f here low t few = go (eqb_tells e x)
  where
    go : (((e == x) ≡ true) × (e ≡ x)) ⊎ (((e == x) ≡ false) × (e ≡ x → ⊥)) → (k : Flow) × Moves most x (given_by x (Ask e now cost) o) (Ask e now cost) o f k
    go (inl (t', q)) = subst (λ (i : ℕ). (k : Flow) × Moves most x (given_by x (Ask i now cost) o) (Ask i now cost) o f k) (sym q) (asks most x now cost o f here low t few)
    go (inr (nay, ne)) = (
      f,
      subst (λ (n : ℕ). Moves most x n (Ask e now cost) o f f) (sym (ap (λ (c : Bool). if c then (if is_go (answer e now o) then cost else 0) else 0) nay))
          (still most x (Ask e now cost) o f f (ask_other e x now cost o (λ q. ne (sym q)) ∙ here) refl refl refl low),
    )

pub moved : (most x : ℕ) (c : Call) (o : Order) (f : Flow) → IsFlow x f o → f.virtual_time < 2 ^ 128 → IsContendingAt x c o → IsCostUpTo most c → (k : Flow) × Moves most x (given_by x c o) c o f k
moved most x (Enter e now) o f here low near few =
    changed most e x (Enter e now) o f (λ k. record (back now o k) { sessions = one_more k.sessions }) refl refl refl (back_time now o f (contends x now f o here near)) here low
moved most x (Leave e) o f here low near few = changed most e x (Leave e) o f (λ k. record k { sessions = k.sessions - 1 }) refl refl refl refl here low
moved most x (Begin_wait e) o f here low near few = changed most e x (Begin_wait e) o f (λ k. record k { waiting = one_more k.waiting }) refl refl refl refl here low
moved most x (End_wait e) o f here low near few = changed most e x (End_wait e) o f (λ k. record k { waiting = k.waiting - 1 }) refl refl refl refl here low
moved most x (Linger e until) o f here low near few = changed most e x (Linger e until) o f (λ k. record k { lingers_until = max k.lingers_until until }) refl refl refl refl here low
moved most x (Limit e until) o f here low near few = changed most e x (Limit e until) o f (λ k. record k { limited_until = max k.limited_until until }) refl refl refl refl here low
moved most x (Retune e rates) o f here low near few =
    (f, still most x (Retune e rates) o f f (put_other o e x (tuned rates o.clock) (λ q. near (sym q)) ∙ here) refl refl refl low)
moved most x (Ask e now cost) o f here low near few = moved_ask most x e now cost o f here low (contends x now f o here near) few
