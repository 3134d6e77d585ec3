-- What two flows that contend are given over a run.
use Rattle.std.proofs.Common.{◌≡◌, ℕ, ◌+◌, ◌-◌, ◌*◌, ◌^◌, ◌<◌, ◌≤◌, min, max, List, [], ◌∷◌, Option, sym, ap, ◌∙◌, arith}
use Rattle.std.specs.List.{AllByRecursion}
use Rattle.std.proofs.Math.Nat.{add-mul}
use Rattle.nbd_base.specs.Words.{when_some}
use Rattle.turn_order.specs.declared.flow.Flow.{Flow}
use Rattle.turn_order.specs.Orders.{Order}
use Rattle.turn_order.specs.Calls.{Call, after, run, given_by, given, IsCostUpTo}
use Rattle.turn_order.specs.Laws.{IsFlow, time_of, IsContendingAt, IsThroughout, lead, IsGivenByWeight}
use Rattle.turn_order.proofs.Moved.{Moves, moved}

-- flows a and b were f and g, and are k and l after calls
pub record Both (most a b : ℕ) (cs : List Call) (o : Order) (f g k l : Flow) : Type 0 where
  pub there : IsFlow a k (run cs o)
  pub up : f.virtual_time ≤ k.virtual_time
  pub other_up : g.virtual_time ≤ l.virtual_time
  pub other_most : l.virtual_time ≤ g.virtual_time + given b cs o * g.step
  pub exact : k.virtual_time < 2 ^ 128 - 1 → f.virtual_time + given a cs o * f.step ≤ k.virtual_time
  pub led : k.virtual_time ≤ max f.virtual_time (l.virtual_time + lead most f g)

-- the steps alone make the lead
same_lead : (most : ℕ) (f g f' g' : Flow) → f'.step ≡ f.step → g'.step ≡ g.step → lead most f' g' ≡ lead most f g
same_lead most f g f' g' p q = ap (λ (n : ℕ). max (8192 * min n g'.step) (8 * n) + most * n) p ∙ ap (λ (n : ℕ). max (8192 * min f.step n) (8 * f.step) + most * f.step) q

-- the sum of what is given, over the weight
summed : (n m s s' : ℕ) → s' ≡ s → (n + m) * s ≡ n * s + m * s'
summed n m s s' e = add-mul n m s ∙ ap (λ (z : ℕ). n * s + m * z) (sym e)

-- how far the first is ahead in the end
led_plain : (k x f l y g m n : ℕ) → k ≤ max x (l + m) → m ≡ n → x ≤ max f (g + n) → g ≤ y → y ≤ l → k ≤ max f (l + n)
led_plain k x f l y g m n p q r s t = omega arith

given_plain : (f a k l g b n : ℕ) → f + a ≤ k → k ≤ max f (l + n) → l ≤ g + b → a ≤ b + (g - f) + n
given_plain f a k l g b n p q r = omega arith

pub both : (most a b : ℕ) (cs : List Call) (o : Order) (f g : Flow) → (b ≡ a → ⊥) → IsFlow a f o → IsFlow b g o → f.virtual_time < 2 ^ 128 → g.virtual_time < 2 ^ 128 → f.reservation_interval ≡ 0
    → AllByRecursion (IsCostUpTo most) cs → IsThroughout a cs o → IsThroughout b cs o → (k : Flow) × ((l : Flow) × Both most a b cs o f g k l)
both most a b [] o f g ne here there low low' none few near near' = (
  f,
  (
    g,
    record {
      there = here;
      up = omega arith;
      other_up = omega arith;
      other_most = omega arith;
      exact = λ _. omega arith;
      led = omega arith;
    },
  ),
)
both most a b (c ∷ cs) o f g ne here there low low' none few near near' =
    let x = moved most a c o f here low near.0 few.0 in
    let y = moved most b c o g there low' near'.0 few.0 in
    let rest = both most a b cs (after c o) x.0 y.0 ne x.1.there y.1.there x.1.low y.1.low (x.1.reservation ∙ none) few.1 near.1 near'.1 in
    (rest.0, (rest.1.0, joined most a b c cs o f g x.0 y.0 rest.0 rest.1.0 ne there near'.0 none x.1 y.1 rest.1.1))
  where
    joined : (most a b : ℕ) (c : Call) (cs : List Call) (o : Order) (f g x y k l : Flow) → (b ≡ a → ⊥) → IsFlow b g o → IsContendingAt b c o → f.reservation_interval ≡ 0
        → Moves most a (given_by a c o) c o f x → Moves most b (given_by b c o) c o g y → Both most a b cs (after c o) x y k l → Both most a b (c ∷ cs) o f g k l
    joined most a b c cs o f g x y k l ne there near none m n r = record {
      there = r.there;
      up = omega (arith, m.up, r.up);
      other_up = omega (arith, n.up, r.other_up);
      other_most = omega (arith, n.most_time, r.other_most, summed (given_by b c o) (given b cs (after c o)) g.step y.step n.step);
      exact = λ below. omega (arith, m.exact none (omega (arith, r.up, below)), r.exact below, summed (given_by a c o) (given a cs (after c o)) f.step x.step m.step);
      led = led_plain k.virtual_time x.virtual_time f.virtual_time l.virtual_time y.virtual_time g.virtual_time (lead most x y) (lead most f g) r.led (same_lead most f g x y m.step n.step) (m.led b g ne there near none) n.up r.other_up;
    }

pub given_by_weight : IsGivenByWeight
given_by_weight a b most f g calls o ne here there low low' none few near near' below =
    let r = both most a b calls o f g ne here there low low' none few near near' in
    let time : time_of a (run calls o) ≡ r.0.virtual_time = ap (λ (s : Option Flow). when_some s (λ (k : Flow). k.virtual_time) 0) r.1.1.there in
    given_plain f.virtual_time (given a calls o * f.step) r.0.virtual_time r.1.0.virtual_time g.virtual_time (given b calls o * g.step) (lead most f g)
    (r.1.1.exact (omega (arith, time, below))) r.1.1.led r.1.1.other_most
