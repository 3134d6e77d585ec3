-- Limit tags: what a choice by weight asks.
use Rattle.std.proofs.Common.{◌≡◌, ℕ, suc, max, Bool, true, not, List, [], ◌∷◌, filter, slice_get, Some, ℤ, pos, ◌≤ℤ◌, int_le, refl, sym, ap, ◌∙◌, arith, inl, inr}
use Rattle.std.proofs.lemmas.Int.{ints}
use Rattle.tag_clock.specs.declared.Phase.{Phase}
use Rattle.tag_clock.specs.declared.Phase.TheVariants.{Reservation, Weight}
use Rattle.server_table.specs.declared.event.Event.TheVariants.{Dispatch}
use Rattle.server_table.specs.declared.event.Answer.{Answer}
use Rattle.server_table.specs.declared.event.Answer.TheVariants as said
use Rattle.server_table.specs.Table.{Row, Table, Setup, Choice, side, is_due_by_limit, due_by_limit, p_key, choice}
use Rattle.server_table.specs.Steps.{Outcome, step, is_by_weight, with_credit}
use Rattle.core_laws.specs.Statements.{WaitsInItsLimit}
use Rattle.lone_export.proofs.Cases.{if_one, some_one, some_told}
use Rattle.core_laws.proofs.Order.{Mem, mem_of_filter, mem_passes, foremost_mem}
use Rattle.core_laws.proofs.Chosen.{IsChosen, is_chosen, and_left, and_right, not_true}

-- ---- a choice by weight

mem_at : (x : Row) (xs : List Row) → Mem x xs → (k : ℕ) × (slice_get xs k ≡ Some x)
mem_at x [] m = absurd m
mem_at x (y ∷ ys) (inl is) = (0, ap Some is)
mem_at x (y ∷ ys) (inr m) = let at : (k : ℕ) × (slice_get ys k ≡ Some x) = mem_at x ys m in (suc at.0, at.1)

pub credit_now : (chosen : Choice) (table : Table) → (with_credit chosen table).now ≡ table.now
credit_now chosen table =
    if_one P (is_by_weight chosen.phase) (some_one P (side table chosen.row.export).rates.r_interval (λ by k. refl) refl) refl
  where
    P : Table → Type 0
    P a = a.now ≡ table.now

module _ {A : Type 0} where
  pub weight_waits : (setup : Setup) (table : Table) (e n t : ℕ) (memory : Bool) → (step {A = A} setup table (Dispatch t) memory).answer ≡ said.Picked e n Weight →
      WaitsInItsLimit table t e n
  weight_waits setup table e n t memory =
      some_told P (choice setup.inflight now) (λ chosen is answer. go chosen answer (is_chosen setup.inflight now chosen is)) (λ none answer. absurd (not_picked answer))
    where
      now : Table
      now = record table { now = max table.now t }

      P : Outcome A → Type 0
      P new = new.answer ≡ said.Picked e n Weight → WaitsInItsLimit table t e n

      not_picked : ◌≡◌ {A = Answer A} said.Nothing (said.Picked e n Weight) → ⊥
      not_picked h = grind (arith, h)

      under : (l : ℤ) (m : ℕ) → int_le l (pos m) ≡ true → l ≤ℤ pos m
      under l m h = grind (arith, ints, h)

      fields : (a b : ℕ) (p : Phase) → ◌≡◌ {A = Answer A} (said.Picked a b p) (said.Picked e n Weight) → (a ≡ e) × (b ≡ n) × (p ≡ Weight)
      fields a b p h = (cc, cc, cc)

      differ : Reservation ≡ Weight → ⊥
      differ h = grind (arith, h)

      go : (chosen : Choice) → ◌≡◌ {A = Answer A} (said.Picked chosen.row.export chosen.row.number chosen.phase) (said.Picked e n Weight) → IsChosen now chosen → WaitsInItsLimit table t e n
      go chosen answer (inl h) = absurd (differ (sym h.1 ∙ (fields chosen.row.export chosen.row.number chosen.phase answer).2))
      go chosen answer (inr h) =
          let m : Mem chosen.row (filter (is_due_by_limit now.now) table.rows) = foremost_mem p_key (due_by_limit now) chosen.row h.0 in
          let at : (k : ℕ) × (slice_get table.rows k ≡ Some chosen.row) = mem_at chosen.row table.rows (mem_of_filter (is_due_by_limit now.now) chosen.row table.rows m) in
          let due : is_due_by_limit now.now chosen.row ≡ true = mem_passes (is_due_by_limit now.now) chosen.row table.rows m in
          let f : (chosen.row.export ≡ e) × (chosen.row.number ≡ n) × (chosen.phase ≡ Weight) = fields chosen.row.export chosen.row.number chosen.phase answer in
          (at.0, chosen.row, at.1, f.0, f.1, not_true chosen.row.out (and_left (not chosen.row.out) _ due), under chosen.row.l now.now (and_right (not chosen.row.out) _ due))
