-- Two exports that wait side by side: how often the one is chosen by weight while the other's first tag rises.
use Rattle.std.proofs.Common.{◌≡◌, ◌⊎◌, ℕ, suc, ◌+◌, ◌-◌, ◌*◌, ◌/◌, ◌<◌, ◌≤◌, max, Bool, true, false, eqb, ◌==◌, List, [], ◌∷◌, length, map, filter, take, drop, slice_get, Some, if◌then◌else◌, ℤ, pos, negsuc, ◌-ℤ◌, ◌+ℤ◌, ◌≤ℤ◌, int_le, refl, sym, subst, ap, ◌∙◌, arith, inl, inr, le-div_iff_mul-le}
use Rattle.std.specs.Int.{int_gap}
use Rattle.std.proofs.lemmas.Int.{ints}
use Rattle.std.proofs.lemmas.Bool.Decides.{nat_tests}
use Rattle.std.proofs.lemmas.Option.{same_Some, none-some}
use Rattle.tag_clock.specs.declared.Phase.{Phase}
use Rattle.tag_clock.specs.declared.Phase.TheVariants.{Reservation, Weight}
use Rattle.server_table.specs.declared.event.Event.{Event}
use Rattle.server_table.specs.declared.event.Event.TheVariants.{Attach, Arrive, Dispatch, Perform, Take, Leave, Gone, Retune}
use Rattle.server_table.specs.declared.event.Answer.{Answer}
use Rattle.server_table.specs.declared.event.Answer.TheVariants as said
use Rattle.server_table.specs.Table.{Row, Table, Setup, Choice, waits_in, is_idle, is_due_by_limit, due_by_limit, foremost, p_key, precedes, choice, opening_table}
use Rattle.server_table.specs.Steps.{Outcome, step, sent, with_credit, outcome, run_answers}
use Rattle.server_table.specs.Shares.{is_choice_of}
use Rattle.core_laws.specs.Counts.{is_phase, is_choice_in}
use Rattle.core_laws.specs.Statements.{StandsAt, table_before}
use Rattle.core_laws.specs.Shares.{first_of, fall, fallen_before, in_terms_of, chosen_before, weight_choices, WaitsThrough, GoesFrom, WaitBeside}
use Rattle.lone_export.proofs.Cases.{true_false, some_told}
use Rattle.core_laws.proofs.Order.{Mem, before, mem_filter, mem_all, mem_of_filter, mem_passes, foremost_first}
use Rattle.core_laws.proofs.Parts.{waits_here}
use Rattle.core_laws.proofs.Heads.{first_mem}
use Rattle.core_laws.proofs.Tidy.{Tidy}
use Rattle.core_laws.proofs.Chosen.{IsChosen, is_chosen, choice_first, and_left, and_right}
use Rattle.core_laws.proofs.Lanes.{Turn, Lane, lane, turn_of, lane_popped, lane_after, goes}
use Rattle.core_laws.proofs.Chains.{IsWaiting, HeadFrom, head_below, head_popped, rise, Reached, ReachedThrough, moves_at}
use Rattle.core_laws.proofs.Onward.{along, counted, Ended, OnwardBy, onward}

-- ---- first requests

pub waiting_is : (e : ℕ) (table : Table) → is_idle e table.rows ≡ false → IsWaiting (lane e table).waiting
waiting_is e table h = go (filter (waits_in e) table.rows) h
  where
    none : (length {A = Row} [] == 0) ≡ true
    none = refl

    go : (xs : List Row) → (length xs == 0) ≡ false → IsWaiting (map turn_of xs)
    go [] h = true_false (sym none ∙ h)
    go (x ∷ xs) h = tt

pub head_in : (v : ℤ) (xs : List Row) (row : Row) → slice_get xs 0 ≡ Some row → HeadFrom v (map turn_of xs) → v ≤ℤ row.p
head_in v [] row first h = absurd h
head_in v (x ∷ xs) row first h = subst (λ (r : Row). v ≤ℤ r.p) (same_Some x row first) h

head_out : (v : ℤ) (xs : List Row) (row : Row) → slice_get xs 0 ≡ Some row → v ≤ℤ row.p → HeadFrom v (map turn_of xs)
head_out v [] row first h = absurd (none-some row first)
head_out v (x ∷ xs) row first h = subst (λ (r : Row). v ≤ℤ r.p) (sym (same_Some x row first)) h

some_first : (v : ℤ) (xs : List Row) → HeadFrom v (map turn_of xs) → (row : Row) × (slice_get xs 0 ≡ Some row)
some_first v [] h = absurd h
some_first v (x ∷ xs) h = (x, refl)

pub waiting_first : (xs : List Row) → IsWaiting (map turn_of xs) → (row : Row) × (slice_get xs 0 ≡ Some row)
waiting_first [] h = absurd h
waiting_first (x ∷ xs) h = (x, refl)

-- ---- a choice by weight is of the least P tag

not_above : (a b : ℤ) (e f m n : ℕ) → before a b e f m n ≡ false → b ≤ℤ a
not_above a b e f m n h = grind (arith, ints, nat_tests, h)

least_row : (now : Table) (c : Row) → foremost p_key (due_by_limit now) ≡ Some c → (g : ℕ) (row : Row) → first_of g now ≡ Some row → row.l ≤ℤ pos now.now → c.p ≤ℤ row.p
least_row now c is g row first due =
    let m : Mem row (filter (waits_in g) now.rows) = first_mem (filter (waits_in g) now.rows) row first in
    let waits : row.out ≡ false = (waits_here g row (mem_passes (waits_in g) row now.rows m)).1 in
    let here : Mem row (filter (is_due_by_limit now.now) now.rows) = mem_filter (is_due_by_limit now.now) row now.rows (is_due row now.now waits due) (mem_of_filter (waits_in g) row now.rows m) in
    not_above row.p c.p row.export c.export row.number c.number (mem_all (λ x. precedes p_key x c ≡ false) row (due_by_limit now) (foremost_first p_key (due_by_limit now) c is) here)
  where
    test : (l : ℤ) (n : ℕ) → l ≤ℤ pos n → int_le l (pos n) ≡ true
    test l n h = grind (arith, ints, h)

    is_due : (row : Row) (n : ℕ) → row.out ≡ false → row.l ≤ℤ pos n → is_due_by_limit n row ≡ true
    is_due row n w h = rw w (test row.l n h)

by_weight : (now : Table) (chosen : Choice) → IsChosen now chosen → chosen.phase ≡ Weight → foremost p_key (due_by_limit now) ≡ Some chosen.row
by_weight now chosen (inl h) w = absurd (differ (sym h.1 ∙ w))
  where
    differ : Reservation ≡ Weight → ⊥
    differ h = grind (arith, h)
by_weight now chosen (inr h) w = h.0

module _ {A : Type 0} where
  pub weight_least : (setup : Setup) (table : Table) (e f n t : ℕ) (memory : Bool) (chosen other : Row) → Tidy f table →
      first_of f table ≡ Some chosen → first_of e table ≡ Some other → other.l ≤ℤ pos (max table.now t) →
      (step {A = A} setup table (Dispatch t) memory).answer ≡ said.Picked f n Weight → (chosen.number ≡ n) × (chosen.p ≤ℤ other.p)
  weight_least setup table e f n t memory chosen other tidy first beside due =
      some_told P (choice setup.inflight now) (λ c is answer. go c is (fields c.row.export c.row.number c.phase answer)) (λ none answer. absurd (not_picked answer))
    where
      now : Table
      now = record table { now = max table.now t }

      P : Outcome A → Type 0
      P new = new.answer ≡ said.Picked f n Weight → (chosen.number ≡ n) × (chosen.p ≤ℤ other.p)

      not_picked : ◌≡◌ {A = Answer A} said.Nothing (said.Picked f n Weight) → ⊥
      not_picked h = grind (arith, h)

      fields : (a b : ℕ) (p : Phase) → ◌≡◌ {A = Answer A} (said.Picked a b p) (said.Picked f n Weight) → (f ≡ a) × (b ≡ n) × (p ≡ Weight)
      fields a b p h = (cc, cc, cc)

      go : (c : Choice) → choice setup.inflight now ≡ Some c → (f ≡ c.row.export) × (c.row.number ≡ n) × (c.phase ≡ Weight) → (chosen.number ≡ n) × (chosen.p ≤ℤ other.p)
      go c is h =
          let same : c.row ≡ chosen = same_Some c.row chosen (sym (choice_first setup.inflight now c is f h.0 tidy.sorted) ∙ first) in
          subst (λ (r : Row). (r.number ≡ n) × (r.p ≤ℤ other.p)) same (h.1, least_row now c.row (by_weight now c (is_chosen setup.inflight now c is) h.2) e other beside due)

  -- what is so where the answer is a choice of e by weight
  record IsWeighted (e f t : ℕ) (table : Table) (new : Outcome A) : Type 0 where
    of_e : is_choice_of e new.answer ≡ true
    least : (row : Row) → first_of f table ≡ Some row → row.l ≤ℤ pos (max table.now t) → (w : ℤ) → HeadFrom w (lane e table).waiting → HeadFrom w (lane f table).waiting

  weighted : (setup : Setup) (table : Table) (e f t : ℕ) (memory : Bool) → Tidy e table → is_choice_in e Weight (step {A = A} setup table (Dispatch t) memory).answer ≡ true → IsWeighted e f t table (step setup table (Dispatch t) memory)
  weighted setup table e f t memory tidy =
      some_told P (choice setup.inflight now) (λ c is chosen. go c is (and_left (eqb c.row.export e) _ chosen) (phases c.phase (and_right (eqb c.row.export e) _ chosen))) (λ none chosen. true_false (sym chosen))
    where
      now : Table
      now = record table { now = max table.now t }

      P : Outcome A → Type 0
      P new = is_choice_in e Weight new.answer ≡ true → IsWeighted e f t table new

      phases : (p : Phase) → is_phase p Weight ≡ true → p ≡ Weight
      phases Weight h = refl
      phases Reservation h = true_false (sym h)

      same_export : (a : ℕ) → eqb a e ≡ true → e ≡ a
      same_export a h = grind (arith, nat_tests, h)

      go : (c : Choice) → choice setup.inflight now ≡ Some c → eqb c.row.export e ≡ true → c.phase ≡ Weight → IsWeighted e f t table (outcome (with_credit c (sent c.row now)) (said.Picked c.row.export c.row.number c.phase))
      go c is here phase = record {
        of_e = here;
        least = λ row first due w h.
            let mine : first_of e table ≡ Some c.row = choice_first setup.inflight now c is e (same_export c.row.export here) tidy.sorted in
            head_out w (filter (waits_in f) table.rows) row first
            (at_most w c.row.p row.p (head_in w (filter (waits_in e) table.rows) c.row mine h) (least_row now c.row (by_weight now c (is_chosen setup.inflight now c is) phase) f row first due));
      }
        where
          at_most : (a b c : ℤ) → a ≤ℤ b → b ≤ℤ c → a ≤ℤ c
          at_most a b c h k = omega (arith, ints)

-- ---- side by side

-- with v the tag at the start, in the terms of now, and so many choices of e by weight since
pub record Beside (v : ℤ) (count interval : ℕ) (mine other : List Turn) : Type 0 where
  pub mine_from : HeadFrom (v +ℤ pos (count * interval)) mine
  pub other_from : HeadFrom (v +ℤ pos ((count - 1) * interval)) other

abbrev one_if : Bool → ℕ
one_if b = if b then 1 else 0

kept : (v d : ℤ) (m n : ℕ) → m ≡ n → ((v -ℤ d) +ℤ pos m) ≤ℤ ((v +ℤ pos n) -ℤ d)
kept v d m n e = omega (arith, ints, e)

if_true : {B : Type 0} (b : Bool) (x y : B) → b ≡ true → (if b then x else y) ≡ x
if_true true x y h = refl
if_true false x y h = true_false (sym h)

module _ {A : Type 0} where
  risen : (setup : Setup) (table : Table) (e interval : ℕ) (event : Event A) (memory : Bool) → Reached e interval table → (v : ℤ) → HeadFrom v (lane e table).waiting →
      IsWaiting (lane e (step setup table event memory).table).waiting → HeadFrom (v -ℤ fall table event (step setup table event memory).answer) (lane e (step setup table event memory).table).waiting
  risen setup table e interval event memory h v from waits =
      let moves : lane e (step setup table event memory).table ≡ lane_after e interval event (step setup table event memory).answer (fall table event (step setup table event memory).answer) (lane e table) = moves_at setup table e interval event memory h in
      subst (λ (l : Lane). HeadFrom (v -ℤ fall table event (step setup table event memory).answer) l.waiting) (sym moves)
      (rise e interval table event (step setup table event memory).answer (lane e table) v h.chained from (subst (λ (l : Lane). IsWaiting l.waiting) moves waits))

module _ (A : Type 0) (setup : Setup) (e f one other : ℕ) where
  -- after a step both still wait
  abbrev BesideAfter : Table → Event A → Bool → ℤ → ℕ → Type 0
  BesideAfter table event memory v count = Beside (v -ℤ fall table event (step setup table event memory).answer) (count + one_if (is_choice_in e Weight (step setup table event memory).answer)) one
      (lane e (step setup table event memory).table).waiting (lane f (step setup table event memory).table).waiting

  beside_unchosen : (table : Table) (event : Event A) (memory : Bool) (v : ℤ) (count : ℕ) → Reached e one table → Reached f other table → Beside v count one (lane e table).waiting (lane f table).waiting →
      IsWaiting (lane e (step setup table event memory).table).waiting → IsWaiting (lane f (step setup table event memory).table).waiting →
      is_choice_in e Weight (step setup table event memory).answer ≡ false → BesideAfter table event memory v count
  beside_unchosen table event memory v count at_e at_f h waits_e waits_f none = rw none (record {
    mine_from = head_below ((v +ℤ pos (count * one)) -ℤ by) ((v -ℤ by) +ℤ pos ((count + 0) * one)) (lane e new.table).waiting
        (kept v by ((count + 0) * one) (count * one) (ap (λ (n : ℕ). n * one) (plus count)))
        (risen setup table e one event memory at_e (v +ℤ pos (count * one)) h.mine_from waits_e);
    other_from = head_below ((v +ℤ pos ((count - 1) * one)) -ℤ by) ((v -ℤ by) +ℤ pos ((count + 0 - 1) * one)) (lane f new.table).waiting
        (kept v by ((count + 0 - 1) * one) ((count - 1) * one) (ap (λ (n : ℕ). (n - 1) * one) (plus count)))
        (risen setup table f other event memory at_f (v +ℤ pos ((count - 1) * one)) h.other_from waits_f);
  })
    where
      new : Outcome A
      new = step setup table event memory

      by : ℤ
      by = fall table event new.answer

      plus : (n : ℕ) → n + 0 ≡ n
      plus n = omega arith

  beside_chosen : (table : Table) (t : ℕ) (memory : Bool) (v : ℤ) (count : ℕ) → Reached e one table → Reached f other table → Beside v count one (lane e table).waiting (lane f table).waiting →
      IsWaiting (lane e (step {A = A} setup table (Dispatch t) memory).table).waiting → IsWaiting (lane f (step {A = A} setup table (Dispatch t) memory).table).waiting →
      ((row : Row) → first_of f table ≡ Some row → row.l ≤ℤ pos (max table.now t)) →
      is_choice_in e Weight (step {A = A} setup table (Dispatch t) memory).answer ≡ true → BesideAfter table (Dispatch t) memory v count
  beside_chosen table t memory v count at_e at_f h waits_e waits_f due chosen = rw chosen (record {
    mine_from = subst (λ (l : Lane). HeadFrom ((v -ℤ pos 0) +ℤ pos ((count + 1) * one)) l.waiting) (sym popped)
        (head_below ((v +ℤ pos (count * one)) +ℤ pos one) ((v -ℤ pos 0) +ℤ pos ((count + 1) * one)) (drop 1 (lane e table).waiting) (one_more v count one)
        (head_popped (v +ℤ pos (count * one)) one (lane e table).waiting (lane e table).next (lane e table).last at_e.chained.turns h.mine_from (subst (λ (l : Lane). IsWaiting l.waiting) popped waits_e)));
    other_from = head_below ((v +ℤ pos (count * one)) -ℤ pos 0) ((v -ℤ pos 0) +ℤ pos ((count + 1 - 1) * one)) (lane f new.table).waiting
        (kept v (pos 0) ((count + 1 - 1) * one) (count * one) (ap (λ (n : ℕ). n * one) (less count)))
        (risen setup table f other (Dispatch t) memory at_f (v +ℤ pos (count * one)) at_least waits_f);
  })
    where
      new : Outcome A
      new = step setup table (Dispatch t) memory

      is : IsWeighted e f t table new
      is = weighted setup table e f t memory at_e.tidy chosen

      popped : lane e new.table ≡ lane_popped (lane e table)
      popped = moves_at setup table e one (Dispatch t) memory at_e ∙ if_true (is_choice_of e new.answer) (lane_popped (lane e table)) (lane e table) is.of_e

      first : (row : Row) × (first_of f table ≡ Some row)
      first = some_first (v +ℤ pos ((count - 1) * one)) (filter (waits_in f) table.rows) h.other_from

      at_least : HeadFrom (v +ℤ pos (count * one)) (lane f table).waiting
      at_least = is.least first.0 first.1 (due first.0 first.1) (v +ℤ pos (count * one)) h.mine_from

      one_more : (v : ℤ) (c i : ℕ) → ((v -ℤ pos 0) +ℤ pos ((c + 1) * i)) ≤ℤ ((v +ℤ pos (c * i)) +ℤ pos i)
      one_more v c i = omega (arith, ints)

      less : (n : ℕ) → n + 1 - 1 ≡ n
      less n = omega arith

  beside_step : (table : Table) (event : Event A) (memory : Bool) (v : ℤ) (count : ℕ) → Reached e one table → Reached f other table → Beside v count one (lane e table).waiting (lane f table).waiting →
      IsWaiting (lane e (step setup table event memory).table).waiting → IsWaiting (lane f (step setup table event memory).table).waiting →
      ((t : ℕ) (row : Row) → event ≡ Dispatch t → is_choice_in e Weight (step setup table event memory).answer ≡ true → first_of f table ≡ Some row → row.l ≤ℤ pos (max table.now t)) → BesideAfter table event memory v count
  beside_step table (Attach g) memory v count at_e at_f h waits_e waits_f due = beside_unchosen table (Attach g) memory v count at_e at_f h waits_e waits_f ((goes setup table e (Attach g) memory at_e.tidy).quiet_in tt e Weight)
  beside_step table (Arrive g s t q) memory v count at_e at_f h waits_e waits_f due = beside_unchosen table (Arrive g s t q) memory v count at_e at_f h waits_e waits_f ((goes setup table e (Arrive g s t q) memory at_e.tidy).quiet_in tt e Weight)
  beside_step table (Dispatch t) memory v count at_e at_f h waits_e waits_f due = go (is_choice_in e Weight (step {A = A} setup table (Dispatch t) memory).answer) refl
    where
      go : (b : Bool) → is_choice_in e Weight (step {A = A} setup table (Dispatch t) memory).answer ≡ b → BesideAfter table (Dispatch t) memory v count
      go true chosen = beside_chosen table t memory v count at_e at_f h waits_e waits_f (λ row first. due t row refl chosen first) chosen
      go false none = beside_unchosen table (Dispatch t) memory v count at_e at_f h waits_e waits_f none
  beside_step table (Perform g n) memory v count at_e at_f h waits_e waits_f due = beside_unchosen table (Perform g n) memory v count at_e at_f h waits_e waits_f ((goes setup table e (Perform g n) memory at_e.tidy).quiet_in tt e Weight)
  beside_step table (Take g s) memory v count at_e at_f h waits_e waits_f due = beside_unchosen table (Take g s) memory v count at_e at_f h waits_e waits_f ((goes setup table e (Take g s) memory at_e.tidy).quiet_in tt e Weight)
  beside_step table (Leave g s) memory v count at_e at_f h waits_e waits_f due = beside_unchosen table (Leave g s) memory v count at_e at_f h waits_e waits_f ((goes setup table e (Leave g s) memory at_e.tidy).quiet_in tt e Weight)
  beside_step table (Gone g s) memory v count at_e at_f h waits_e waits_f due = beside_unchosen table (Gone g s) memory v count at_e at_f h waits_e waits_f ((goes setup table e (Gone g s) memory at_e.tidy).quiet_in tt e Weight)
  beside_step table (Retune g rates) memory v count at_e at_f h waits_e waits_f due = beside_unchosen table (Retune g rates) memory v count at_e at_f h waits_e waits_f ((goes setup table e (Retune g rates) memory at_e.tidy).quiet_in tt e Weight)

-- ---- from place to place

terms_at : (p a b d : ℤ) → p -ℤ ((a +ℤ d) -ℤ b) ≡ (p -ℤ (a -ℤ b)) -ℤ d
terms_at p a b d = omega (arith, ints)

module _ {A : Type 0} where
  -- what is asked of two exports that wait side by side: f is due at each dispatch that chooses e by weight
  pub record Alongside (e f i j : ℕ) (setup : Setup) (events : List (Event A)) (marks : List Bool) (start : Row) : Type 0 where
    pub f_waits : WaitsThrough f i j setup events marks
    pub f_due : (k t : ℕ) (row : Row) (said : Answer A) → i ≤ k → k < j → StandsAt k events (run_answers setup events marks) (Dispatch t) said → is_choice_in e Weight said ≡ true →
        first_of f (table_before k setup events marks) ≡ Some row → row.l ≤ℤ pos (max (table_before k setup events marks).now t)
    pub e_waits : WaitsThrough e i j setup events marks
    pub not_below : (row : Row) → first_of e (table_before i setup events marks) ≡ Some row → start.p ≤ℤ row.p

  pub alongside : (e f i j : ℕ) (setup : Setup) (events : List (Event A)) (marks : List Bool) (start : Row) → WaitBeside e f i j setup events marks start → Alongside e f i j setup events marks start
  alongside e f i j setup events marks start waits = record {
    f_waits = waits.f_waits;
    f_due = λ k t row said low lt stands chosen. waits.f_due k t row low lt stands.0;
    e_waits = waits.e_waits;
    not_below = waits.not_below;
  }

  record BesideAt (e f i k one : ℕ) (setup : Setup) (events : List (Event A)) (marks : List Bool) (p : ℤ) : Type 0 where
    count : ℕ
    chosen : chosen_before (is_choice_in e Weight) k (run_answers setup events marks) ≡ chosen_before (is_choice_in e Weight) i (run_answers setup events marks) + count
    beside : Beside (in_terms_of i k setup events marks p) count one (lane e (table_before k setup events marks)).waiting (lane f (table_before k setup events marks)).waiting

  beside_at : (setup : Setup) (e f i j one other : ℕ) (events : List (Event A)) (marks : List Bool) (start end : Row) → ReachedThrough e one i j setup events marks → ReachedThrough f other i j setup events marks →
      GoesFrom f i j setup events marks start end → Alongside e f i j setup events marks start → BesideAt e f i j one setup events marks start.p
  beside_at setup e f i j one other events marks start end reached_e reached_f goes_from waits = along P i j goes_from.order base onward_one
    where
      P : ℕ → Type 0
      P k = BesideAt e f i k one setup events marks start.p

      nothing : (p a : ℤ) (m : ℕ) → m ≡ 0 → ((p -ℤ (a -ℤ a)) +ℤ pos m) ≤ℤ p
      nothing p a m e = omega (arith, ints, e)

      none : (n : ℕ) → 0 * n ≡ 0
      none n = omega arith

      none_less : (n : ℕ) → (0 - 1) * n ≡ 0
      none_less n = omega arith

      plus : (n : ℕ) → n ≡ n + 0
      plus n = omega arith

      self : (n : ℕ) → n ≤ n
      self n = omega arith

      now_i : Table
      now_i = table_before i setup events marks

      first_e : (row : Row) × (first_of e now_i ≡ Some row)
      first_e = waiting_first (filter (waits_in e) now_i.rows) (waiting_is e now_i (waits.e_waits i (self i) goes_from.order))

      base : P i
      base = record {
        count = 0;
        chosen = plus (chosen_before (is_choice_in e Weight) i (run_answers setup events marks));
        beside = record {
          mine_from = head_out (in_terms_of i i setup events marks start.p +ℤ pos (0 * one)) (filter (waits_in e) now_i.rows) first_e.0 first_e.1
              (at_most (in_terms_of i i setup events marks start.p +ℤ pos (0 * one)) start.p first_e.0.p (nothing start.p (fallen_before i setup events marks) (0 * one) (none one)) (waits.not_below first_e.0 first_e.1));
          other_from = head_out (in_terms_of i i setup events marks start.p +ℤ pos ((0 - 1) * one)) (filter (waits_in f) now_i.rows) start goes_from.first
              (nothing start.p (fallen_before i setup events marks) ((0 - 1) * one) (none_less one));
        };
      }
        where
          at_most : (a b c : ℤ) → a ≤ℤ b → b ≤ℤ c → a ≤ℤ c
          at_most a b c h k = omega (arith, ints)

      above : (k : ℕ) → i ≤ k → i ≤ suc k
      above k le = omega (arith, le)

      upto : (k : ℕ) → k < j → suc k ≤ j
      upto k lt = omega (arith, lt)

      before : (k : ℕ) → k < j → k ≤ j
      before k lt = omega (arith, lt)

      onward_one : (k : ℕ) → i ≤ k → k < j → P k → P (suc k)
      onward_one k low lt h = go (onward setup events (opening_table setup) marks k)
        where
          now : Table
          now = table_before k setup events marks

          go : Ended setup (opening_table setup) events marks k ⊎ OnwardBy setup (opening_table setup) events marks k → P (suc k)
          go (inl ended) = record {
            count = h.count;
            chosen = ap (λ (xs : List (Answer A)). length (filter (is_choice_in e Weight) xs)) ended.answers ∙ h.chosen;
            beside = rw (ended.falls, ended.tables) h.beside;
          }
          go (inr next) = record {
            count = h.count + one_if (is_choice_in e Weight new.answer);
            chosen = ap (λ (xs : List (Answer A)). length (filter (is_choice_in e Weight) xs)) next.by.answers ∙ counted (is_choice_in e Weight) (take k (run_answers setup events marks)) new.answer
                ∙ regroup (chosen_before (is_choice_in e Weight) k (run_answers setup events marks)) (chosen_before (is_choice_in e Weight) i (run_answers setup events marks)) h.count (one_if (is_choice_in e Weight new.answer)) h.chosen;
            beside = rw (next.by.falls, next.by.tables, terms_at start.p (fallen_before k setup events marks) (fallen_before i setup events marks) by)
                (beside_step A setup e f one other now next.event next.memory (in_terms_of i k setup events marks start.p) h.count
                (reached_e k low (before k lt)) (reached_f k low (before k lt)) h.beside
                (subst (λ (t : Table). IsWaiting (lane e t).waiting) next.by.tables (waiting_is e (table_before (suc k) setup events marks) (waits.e_waits (suc k) (above k low) (upto k lt))))
                (subst (λ (t : Table). IsWaiting (lane f t).waiting) next.by.tables (waiting_is f (table_before (suc k) setup events marks) (waits.f_waits (suc k) (above k low) (upto k lt))))
                (λ t row is chosen first. waits.f_due k t row new.answer low lt (next.by.stands ∙ ap Some is, next.by.answered) chosen first));
          }
            where
              new : Outcome A
              new = step setup now next.event next.memory

              by : ℤ
              by = fall now next.event new.answer

              regroup : (x a c d : ℕ) → x ≡ a + c → x + d ≡ a + (c + d)
              regroup x a c d h = omega (arith, h)

-- ---- the bound

gap_from : (a b : ℤ) (m : ℕ) → (a +ℤ pos m) ≤ℤ b → m ≤ int_gap a b
gap_from (pos a) (pos b) m h = omega (arith, ints)
gap_from (pos a) (negsuc b) m h = omega (arith, ints)
gap_from (negsuc a) (pos b) m h = omega (arith, ints)
gap_from (negsuc a) (negsuc b) m h = omega (arith, ints)

module _ {A : Type 0} where
  pub bounded : (setup : Setup) (e f i j one other : ℕ) (events : List (Event A)) (marks : List Bool) (start end : Row) → ReachedThrough e one i j setup events marks → ReachedThrough f other i j setup events marks → 0 < one →
      GoesFrom f i j setup events marks start end → Alongside e f i j setup events marks start →
      weight_choices e i j (run_answers setup events marks) ≤ 1 + int_gap (in_terms_of i j setup events marks start.p) end.p / one
  bounded setup e f i j one other events marks start end reached_e reached_f some goes_from waits =
      within (chosen_before (is_choice_in e Weight) j (run_answers setup events marks)) (chosen_before (is_choice_in e Weight) i (run_answers setup events marks)) at.count (gap / one) at.chosen
      ((le-div_iff_mul-le {k = one} {x = at.count - 1} {y = gap} some).1
      (gap_from (in_terms_of i j setup events marks start.p) end.p ((at.count - 1) * one)
      (head_in (in_terms_of i j setup events marks start.p +ℤ pos ((at.count - 1) * one)) (filter (waits_in f) (table_before j setup events marks).rows) end goes_from.last at.beside.other_from)))
    where
      at : BesideAt e f i j one setup events marks start.p
      at = beside_at setup e f i j one other events marks start end reached_e reached_f goes_from waits

      gap : ℕ
      gap = int_gap (in_terms_of i j setup events marks start.p) end.p

      within : (x a c q : ℕ) → x ≡ a + c → c - 1 ≤ q → x - a ≤ 1 + q
      within x a c q h k = omega (arith, h, k)
