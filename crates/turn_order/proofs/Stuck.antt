-- Somebody who has something at hand goes on.
use Rattle.std.proofs.Common.{◌≡◌, ℕ, zero, suc, ◌-◌, ◌<◌, ◌≤◌, min, Bool, true, false, List, [], ◌∷◌, Some, refl, sym, ap, subst, ◌∙◌, inl, inr, arith}
use Rattle.std.specs.Prelude.{◌⊎◌, ◌==◌, ◌||◌, ◌&&◌, nat_lt, nat_le, slice_get, slice_set}
use Rattle.std.proofs.lemmas.Bool.Decides.{nat_tests, leb_tells, eqb_tells}
use Rattle.turn_order.specs.declared.flow.Flow.{Flow}
use Rattle.turn_order.specs.declared.contenders.Contenders.{Contenders}
use Rattle.turn_order.specs.declared.Turn.TheVariants.{Go}
use Rattle.turn_order.specs.Flows.{contends_at, late_at}
use Rattle.turn_order.specs.Contenders.{joined, gathered, among, goes_on}
use Rattle.turn_order.specs.Orders.{Order, back, answer}
use Rattle.turn_order.specs.Laws.{IsFlow, IsAtHand, OneGoes, IsNoneStuck}
use Rattle.turn_order.proofs.Cases.{if_told, true_false}
use Rattle.turn_order.proofs.Puts.{get_same, get_other}
use Rattle.turn_order.proofs.Gathered.{own, first_of, late_of}
use Rattle.turn_order.proofs.Turns.{late_goes, first_goes, turn_goes}
use Rattle.turn_order.proofs.Late.{answer_is}

-- ---- where a late one and the first are found

pub record LateOne (now : ℕ) (fs : List Flow) : Type 0 where
  pub index : ℕ
  pub flow : Flow
  pub there : slice_get fs index ≡ Some flow
  pub contends : contends_at now flow ≡ true
  pub late : late_at now flow ≡ true

pub record FirstOne (now : ℕ) (fs : List Flow) (time : ℕ) : Type 0 where
  pub index : ℕ
  pub flow : Flow
  pub there : slice_get fs index ≡ Some flow
  pub contends : contends_at now flow ≡ true
  pub is_first : flow.virtual_time ≡ time

or_cases : (a b : Bool) → (a || b) ≡ true → (a ≡ true) ⊎ (b ≡ true)
or_cases true b h = inl refl
or_cases false b h = inr h

joined_late_from : (now : ℕ) (f : Flow) (all : Contenders) → (joined now f all).late ≡ true → (all.late ≡ true) ⊎ ((contends_at now f ≡ true) × (late_at now f ≡ true))
joined_late_from now f all =
    if_told (λ (c : Contenders). c.late ≡ true → (all.late ≡ true) ⊎ ((contends_at now f ≡ true) × (late_at now f ≡ true))) (contends_at now f)
    (λ t q. with_test t (or_cases all.late (late_at now f) q)) (λ _ q. inl q)
  where
    with_test : contends_at now f ≡ true → (all.late ≡ true) ⊎ (late_at now f ≡ true) → (all.late ≡ true) ⊎ ((contends_at now f ≡ true) × (late_at now f ≡ true))
    with_test t (inl l) = inl l
    with_test t (inr l) = inr (t, l)

late_from : (now : ℕ) (fs : List Flow) (all : Contenders) → (gathered now fs all).late ≡ true → (all.late ≡ true) ⊎ LateOne now fs
late_from now [] all h = inl h
late_from now (f ∷ fs) all h = go (late_from now fs (joined now f all) h)
  where
    here : (all.late ≡ true) ⊎ ((contends_at now f ≡ true) × (late_at now f ≡ true)) → (all.late ≡ true) ⊎ LateOne now (f ∷ fs)
    here (inl l) = inl l
    here (inr (t, l)) = inr (record { index = zero; flow = f; there = refl; contends = t; late = l })

    go : ((joined now f all).late ≡ true) ⊎ LateOne now fs → (all.late ≡ true) ⊎ LateOne now (f ∷ fs)
    go (inl l) = here (joined_late_from now f all l)
    go (inr one) = inr (record { index = suc one.index; flow = one.flow; there = one.there; contends = one.contends; late = one.late })

min_cases : (g a b : ℕ) → g ≡ min a b → (g ≡ a) ⊎ (b ≡ g)
min_cases g a b h = go (leb_tells a b)
  where
    go : ((nat_le a b ≡ true) × (a ≤ b)) ⊎ ((nat_le a b ≡ false) × (b < a)) → (g ≡ a) ⊎ (b ≡ g)
    go (inl (_, l)) = inl (omega arith)
    go (inr (_, l)) = inr (omega arith)

joined_first_from : (now : ℕ) (f : Flow) (all : Contenders) (g : ℕ) → g ≡ (joined now f all).first → (g ≡ all.first) ⊎ ((contends_at now f ≡ true) × (f.virtual_time ≡ g))
joined_first_from now f all g =
    if_told (λ (c : Contenders). g ≡ c.first → (g ≡ all.first) ⊎ ((contends_at now f ≡ true) × (f.virtual_time ≡ g))) (contends_at now f)
    (λ t q. with_test t (min_cases g all.first f.virtual_time q)) (λ _ q. inl q)
  where
    with_test : contends_at now f ≡ true → (g ≡ all.first) ⊎ (f.virtual_time ≡ g) → (g ≡ all.first) ⊎ ((contends_at now f ≡ true) × (f.virtual_time ≡ g))
    with_test t (inl l) = inl l
    with_test t (inr l) = inr (t, l)

first_from : (now : ℕ) (fs : List Flow) (all : Contenders) → ((gathered now fs all).first ≡ all.first) ⊎ FirstOne now fs (gathered now fs all).first
first_from now [] all = inl refl
first_from now (f ∷ fs) all = go (gathered now fs (joined now f all)).first (first_from now fs (joined now f all))
  where
    here : (g : ℕ) → (g ≡ all.first) ⊎ ((contends_at now f ≡ true) × (f.virtual_time ≡ g)) → (g ≡ all.first) ⊎ FirstOne now (f ∷ fs) g
    here g (inl l) = inl l
    here g (inr (t, l)) = inr (record { index = zero; flow = f; there = refl; contends = t; is_first = l })

    go : (g : ℕ) → (g ≡ (joined now f all).first) ⊎ FirstOne now fs g → (g ≡ all.first) ⊎ FirstOne now (f ∷ fs) g
    go g (inl l) = here g (joined_first_from now f all g l)
    go g (inr one) = inr (record { index = suc one.index; flow = one.flow; there = one.there; contends = one.contends; is_first = one.is_first })

-- what is below all that contend is below the first
first_least : (now : ℕ) (fs : List Flow) (all : Contenders) (v : ℕ) → v ≤ all.first → ((i : ℕ) (g : Flow) → slice_get fs i ≡ Some g → contends_at now g ≡ true → v ≤ g.virtual_time) → v ≤ (gathered now fs all).first
first_least now [] all v h each = h
first_least now (f ∷ fs) all v h each = first_least now fs (joined now f all) v here (λ i g there t. each (suc i) g there t)
  where
    here : v ≤ (joined now f all).first
    here = if_told (λ (c : Contenders). v ≤ c.first) (contends_at now f) (λ t. omega (arith, each zero f refl t)) (λ _. h)

-- ---- one of those that contend goes on

pub record Front (now : ℕ) (fs : List Flow) : Type 0 where
  pub index : ℕ
  pub flow : Flow
  pub there : slice_get fs index ≡ Some flow
  pub contends : contends_at now flow ≡ true
  pub goes : goes_on now (among now fs flow) flow ≡ true

none_late : (now : ℕ) (fs : List Flow) (f g : Flow) → (among now fs f).late ≡ false → (among now fs g).late ≡ false
none_late now fs f g nay = go (among now fs g).late refl
  where
    found : (false ≡ true) ⊎ LateOne now fs → true ≡ false
    found (inl h) = true_false (sym h)
    found (inr one) = sym (late_of now fs (own f) one.index one.flow one.there one.contends one.late) ∙ nay

    go : (b : Bool) → (among now fs g).late ≡ b → b ≡ false
    go false h = refl
    go true h = found (late_from now fs (own g) h)

front : (now : ℕ) (fs : List Flow) (i : ℕ) (f : Flow) → slice_get fs i ≡ Some f → contends_at now f ≡ true → Front now fs
front now fs i f there t = go (among now fs f).late refl
  where
    by_late : (false ≡ true) ⊎ LateOne now fs → Front now fs
    by_late (inl h) = true_false (sym h)
    by_late (inr one) = record { index = one.index; flow = one.flow; there = one.there; contends = one.contends; goes = late_goes now (among now fs one.flow) one.flow one.late }

    by_time : (among now fs f).late ≡ false → ((among now fs f).first ≡ f.virtual_time) ⊎ FirstOne now fs (among now fs f).first → Front now fs
    by_time nay (inl h) = record { index = i; flow = f; there = there; contends = t; goes = first_goes now (among now fs f) f nay (omega (arith, h)) }
    by_time nay (inr one) = record {
      index = one.index;
      flow = one.flow;
      there = one.there;
      contends = one.contends;
      goes = first_goes now (among now fs one.flow) one.flow (none_late now fs f one.flow nay)
          (first_least now fs (own one.flow) one.flow.virtual_time (omega arith) (λ j g here u. omega (arith, one.is_first, first_of now fs (own f) j g here u)));
    }

    go : (b : Bool) → (among now fs f).late ≡ b → Front now fs
    go true h = by_late (late_from now fs (own f) h)
    go false h = by_time h (first_from now fs (own f))

-- ---- what it is answered

seen_by : (n u l s now : ℕ) → ((nat_lt 0 n || nat_lt now u) && nat_le l now && nat_le (now - s) 5000000) ≡ true → ((nat_lt 0 n || nat_lt now u) && nat_le l now && nat_le (now - now) 5000000) ≡ true
seen_by n u l s now h = grind (arith, nat_tests)

abbrev seen_at : ℕ → Flow → Flow
seen_at now f = record f { seen = now }

seen_contends : (now : ℕ) (f : Flow) → contends_at now f ≡ true → contends_at now (seen_at now f) ≡ true
seen_contends now f t = seen_by f.sessions f.lingers_until f.limited_until f.seen now t

abbrev with_one : ℕ → Flow → Contenders → Contenders
with_one now f all = record { first = min all.first f.virtual_time; step = min all.step f.step; late = all.late || late_at now f }

seen_joins : (now : ℕ) (f : Flow) → contends_at now f ≡ true → (all : Contenders) → joined now (seen_at now f) all ≡ joined now f all
seen_joins now f t all =
    if_told (λ (c : Contenders). c ≡ joined now f all) (contends_at now (seen_at now f))
    (λ _. if_told (λ (c : Contenders). with_one now f all ≡ c) (contends_at now f) (λ _. refl) (λ nay. true_false (sym t ∙ nay)))
    (λ nay. true_false (sym (seen_contends now f t) ∙ nay))

gathered_put : (now : ℕ) (fs : List Flow) (i : ℕ) (f g : Flow) → slice_get fs i ≡ Some f → ((all : Contenders) → joined now g all ≡ joined now f all) → (all : Contenders) → gathered now (slice_set fs i g) all ≡ gathered now fs all
gathered_put now [] i f g h same all = refl
gathered_put now (x ∷ fs) zero f g h same all =
    let e : f ≡ x = cc in
    ap (gathered now fs) (same all ∙ ap (λ (k : Flow). joined now k all) e)
gathered_put now (x ∷ fs) (suc i) f g h same all = gathered_put now fs i f g h same (joined now x all)

seen_is : (now : ℕ) (o : Order) (f : Flow) → contends_at now f ≡ true → seen_at now f ≡ back now o f
seen_is now o f t = if_told (λ (v : ℕ). seen_at now f ≡ record f { seen = now; virtual_time = v }) (contends_at now f) (λ _. refl) (λ nay. true_false (sym t ∙ nay))

front_goes : (i now : ℕ) (f : Flow) (o : Order) → IsFlow i f o → contends_at now f ≡ true → goes_on now (among now o.flows f) f ≡ true → answer i now o ≡ Go
front_goes i now f o there t goes =
    answer_is i now o f there ∙ turn_goes now (among now (slice_set o.flows i (back now o f)) (back now o f)) (back now o f)
    (subst (λ (k : Flow). goes_on now (among now (slice_set o.flows i k) k) k ≡ true) (seen_is now o f t)
    (ap (λ (c : Contenders). goes_on now c f) (gathered_put now o.flows i f (seen_at now f) there (seen_joins now f t) (own f)) ∙ goes))

and_left : (a b : Bool) → (a && b) ≡ true → a ≡ true
and_left true b h = refl
and_left false b h = h

more : (m n : ℕ) → nat_lt m n ≡ true → m < n
more m n h = grind (arith, nat_tests)

some_at_hand : (n u now : ℕ) → (nat_lt 0 n ≡ true) ⊎ (nat_lt now u ≡ true) → (0 < n) ⊎ (now < u)
some_at_hand n u now (inl h) = inl (more 0 n h)
some_at_hand n u now (inr h) = inr (more now u h)

is_at_hand : (now : ℕ) (f : Flow) → contends_at now f ≡ true → IsAtHand now f
is_at_hand now f t =
    some_at_hand f.sessions f.lingers_until now (or_cases (nat_lt 0 f.sessions) (nat_lt now f.lingers_until)
    (and_left (nat_lt 0 f.sessions || nat_lt now f.lingers_until) (nat_le f.limited_until now)
    (and_left ((nat_lt 0 f.sessions || nat_lt now f.lingers_until) && nat_le f.limited_until now) (nat_le (now - f.seen) 5000000) t)))

from_front : (now : ℕ) (o : Order) → Front now o.flows → OneGoes now o
from_front now o one = record { export = one.index; flow = one.flow; there = one.there; at_hand = is_at_hand now one.flow one.contends; goes = front_goes one.index now one.flow o one.there one.contends one.goes }

module _ (e now : ℕ) (f : Flow) (o : Order) (here : IsFlow e f o) (some : IsAtHand now f) where
  abbrev k : Flow
  k = back now o f

  abbrev fs : List Flow
  fs = slice_set o.flows e k

  itself : goes_on now (among now fs k) k ≡ true → OneGoes now o
  itself goes = record { export = e; flow = f; there = here; at_hand = some; goes = answer_is e now o f here ∙ turn_goes now (among now fs k) k goes }

  -- a flow of the changed list is k, or one that stood there before
  either : (j : ℕ) (g : Flow) → slice_get fs j ≡ Some g → contends_at now g ≡ true → (g ≡ k → goes_on now (among now fs k) k ≡ true) → (((j == e) ≡ true) × (j ≡ e)) ⊎ (((j == e) ≡ false) × (j ≡ e → ⊥)) → OneGoes now o
  either j g there t own_goes (inl (_, q)) =
      let same : Some g ≡ Some k = sym there ∙ (ap (slice_get fs) q ∙ get_same o.flows e f k here) in
      let is : g ≡ k = cc in
      itself (own_goes is)
  either j g there t own_goes (inr (_, ne)) = from_front now o (front now o.flows j g (sym (get_other o.flows e j k ne) ∙ there) t)

  by_late : (false ≡ true) ⊎ LateOne now fs → OneGoes now o
  by_late (inl h) = true_false (sym h)
  by_late (inr one) = either one.index one.flow one.there one.contends (λ is. late_goes now (among now fs k) k (sym (ap (late_at now) is) ∙ one.late)) (eqb_tells one.index e)

  by_time : (among now fs k).late ≡ false → ((among now fs k).first ≡ k.virtual_time) ⊎ FirstOne now fs (among now fs k).first → OneGoes now o
  by_time nay (inl h) = itself (first_goes now (among now fs k) k nay (omega (arith, h)))
  by_time nay (inr one) = either one.index one.flow one.there one.contends (λ is. first_goes now (among now fs k) k nay (omega (arith, one.is_first, ap (λ (x : Flow). x.virtual_time) is))) (eqb_tells one.index e)

  by_test : (b : Bool) → (among now fs k).late ≡ b → OneGoes now o
  by_test true h = by_late (late_from now fs (own k) h)
  by_test false h = by_time h (first_from now fs (own k))

  one_goes : OneGoes now o
  one_goes = by_test (among now fs k).late refl

pub none_stuck : IsNoneStuck
none_stuck e now f o here some = one_goes e now f o here some
