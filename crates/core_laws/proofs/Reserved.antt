-- While a reservation is due, the choice is by reservation.
use Rattle.std.proofs.Common.{◌≡◌, ℕ, zero, suc, max, Bool, true, false, nat_le, List, [], ◌∷◌, length, filter, slice_get, Option, Some, ℤ, pos, ◌≤ℤ◌, int_le, sym, ap, ◌∙◌, arith, inl, inr}
use Rattle.std.proofs.lemmas.Int.{ints}
use Rattle.std.proofs.lemmas.Option.{same_Some, none-some}
use Rattle.tag_clock.specs.declared.Phase.{Phase}
use Rattle.tag_clock.specs.declared.Phase.TheVariants.{Reservation}
use Rattle.server_table.specs.declared.event.Event.TheVariants.{Dispatch}
use Rattle.server_table.specs.declared.event.Answer.{Answer}
use Rattle.server_table.specs.declared.event.Answer.TheVariants as said
use Rattle.server_table.specs.Table.{Row, Table, Setup, Choice, is_due_by_reservation, due_by_reservation, foremost, r_key, choice}
use Rattle.server_table.specs.Steps.{Outcome, step}
use Rattle.core_laws.specs.Statements.{IsReservationDue}
use Rattle.lone_export.proofs.Cases.{if_one, some_told}
use Rattle.core_laws.proofs.Order.{Mem, mem_filter}
use Rattle.core_laws.proofs.Heads.{foremost_some}

pub at_mem : (x : Row) (xs : List Row) (k : ℕ) → slice_get xs k ≡ Some x → Mem x xs
at_mem x [] k h = absurd (none-some x h)
at_mem x (y ∷ ys) zero h = inl (same_Some y x h)
at_mem x (y ∷ ys) (suc k) h = inr (at_mem x ys k h)

due_at : (row : Row) (r : ℤ) (now : ℕ) → row.out ≡ false → row.r ≡ Some r → r ≤ℤ pos now → is_due_by_reservation now row ≡ true
due_at row r now waits is le = rw (waits, is) (test r now le)
  where
    test : (r : ℤ) (now : ℕ) → r ≤ℤ pos now → int_le r (pos now) ≡ true
    test r now le = grind (arith, ints, le)

-- a choice by weight tells that no reservation is due
by_reservation : (inflight : ℕ) (table : Table) (chosen : Choice) → (c : Row) × (foremost r_key (due_by_reservation table) ≡ Some c) → choice inflight table ≡ Some chosen → chosen.phase ≡ Reservation
by_reservation inflight table chosen due is =
    if_one P (nat_le inflight (length (filter (λ row. row.out) table.rows))) (λ h. absurd (none-some chosen h))
    (some_told P (foremost r_key (due_by_reservation table))
    (λ row h e. ap (λ (c : Choice). c.phase) (sym (same_Some (record { row = row; phase = Reservation }) chosen e)))
    (λ none. absurd (none-some due.0 (sym none ∙ due.1))))
    is
  where
    P : Option Choice → Type 0
    P o = o ≡ Some chosen → chosen.phase ≡ Reservation

module _ {A : Type 0} where
  pub goes_first : (setup : Setup) (table : Table) (e n t : ℕ) (phase : Phase) (memory : Bool) → IsReservationDue table t → (step {A = A} setup table (Dispatch t) memory).answer ≡ said.Picked e n phase → phase ≡ Reservation
  goes_first setup table e n t phase memory (k, row, r, at, waits, is, le) =
      some_told P (choice setup.inflight now) (λ chosen c answer. phases chosen.row.export chosen.row.number chosen.phase answer ∙ by_reservation setup.inflight now chosen due c) (λ none answer. absurd (not_picked answer))
    where
      now : Table
      now = record table { now = max table.now t }

      P : Outcome A → Type 0
      P new = new.answer ≡ said.Picked e n phase → phase ≡ Reservation

      due : (c : Row) × (foremost r_key (due_by_reservation now) ≡ Some c)
      due = foremost_some r_key (due_by_reservation now) row (mem_filter (is_due_by_reservation now.now) row table.rows (due_at row r now.now waits is le) (at_mem row table.rows k at))

      not_picked : ◌≡◌ {A = Answer A} said.Nothing (said.Picked e n phase) → ⊥
      not_picked h = grind (arith, h)

      phases : (a b : ℕ) (p : Phase) → ◌≡◌ {A = Answer A} (said.Picked a b p) (said.Picked e n phase) → phase ≡ p
      phases a b p h = cc
