-- When a dispatch chooses next, by the first requests.
use Rattle.std.proofs.Common.{◌≡◌, ℕ, ◌<◌, ◌≤◌, ◌^◌, max, ℤ, pos, negsuc, Bool, true, false, Option, Some, None, List, refl, sym, ◌∙◌, ap, subst, arith}
use Rattle.std.specs.Prelude.{int_le, int_lt, is_some, nat_le, length, filter, unsigned_abs, IfSome, IfNone, if◌then◌else◌}
use Rattle.std.proofs.lemmas.Int.{ints}
use Rattle.std.proofs.lemmas.Bool.Decides.{nat_tests}
use Rattle.tag_clock.specs.declared.Tags.{Tags}
use Rattle.eligibility.specs.Choice.{choice as choice_among}
use Rattle.eligibility.specs.NextDue.{IsNextDue as IsNextAmong, IsNeverDue as IsNeverAmong}
use Rattle.server_table.specs.Table.{Row, Choice}
use Rattle.server_table.specs.Kept.{export_phase}
use Rattle.server_table.specs.Parts.{rows_from}
use Rattle.server_table.proofs.Dispatch.{outs_of, chooses_among_heads}
use Rattle.server_core.specs.Kept.{total}
use Rattle.server_core.specs.Members.{Standing}
use Rattle.server_core.specs.Served.{parts, served_of, IsServed}
use Rattle.server_core.specs.NextDue.{chosen_at, IsNextDue, IsNeverDue, moment_at}
use Rattle.server_core.proofs.Changed.{in_order}

-- the choice over the table is that over the first requests
among : (ms : List Standing) (slots : List (Option Tags)) (asked now t inflight served : ℕ) → IsServed ms slots asked now inflight served → served < inflight
    → export_phase (chosen_at t (served_of ms now inflight)) ≡ choice_among (pos (max now t)) slots
among ms slots asked now t inflight served kept free =
    let order = in_order (total (parts ms)) (parts ms) kept.server.each in
    let counted = kept.server.counted in
    let o = outs_of 0 (parts ms) in
    chooses_among_heads (parts ms) (max now t) inflight (record { numbered = order.0; rising = order.1 }) (omega arith)
    ∙ ap (choice_among (pos (max now t))) (sym kept.server.firsts)

none_told : (o : Option Choice) → export_phase o ≡ None → o ≡ None
none_told None h = refl
none_told (Some c) h = cc

some_told : (o : Option Choice) → is_some (export_phase o) ≡ true → is_some o ≡ true
some_told None h = h
some_told (Some c) h = refl

none_at : (ms : List Standing) (slots : List (Option Tags)) (asked now t inflight served : ℕ) → IsServed ms slots asked now inflight served → served < inflight
    → choice_among (pos (max now t)) slots ≡ None → chosen_at t (served_of ms now inflight) ≡ None
none_at ms slots asked now t inflight served kept free none =
    none_told (chosen_at t (served_of ms now inflight)) (among ms slots asked now t inflight served kept free ∙ none)

some_at : (ms : List Standing) (slots : List (Option Tags)) (asked now t inflight served : ℕ) → IsServed ms slots asked now inflight served → served < inflight
    → is_some (choice_among (pos (max now t)) slots) ≡ true → is_some (chosen_at t (served_of ms now inflight)) ≡ true
some_at ms slots asked now t inflight served kept free some =
    some_told (chosen_at t (served_of ms now inflight)) (ap (λ o. is_some o) (among ms slots asked now t inflight served kept free) ∙ some)

from_now : (now t : ℕ) → int_le (pos now) (pos (max now t)) ≡ true
from_now now t = let h : now ≤ max now t = omega arith in grind (arith, ints)

-- as many are out as may be
pub never_full : (ms : List Standing) (slots : List (Option Tags)) (asked now inflight served : ℕ) → IsServed ms slots asked now inflight served → inflight ≤ served → IsNeverDue (served_of ms now inflight)
never_full ms slots asked now inflight served kept full = λ t lt.
    let counted = kept.server.counted in
    let o = outs_of 0 (parts ms) in
    let test : nat_le inflight (length (filter (λ (row : Row). row.out) (rows_from 0 (parts ms)))) ≡ true = grind (arith, nat_tests) in
    rw test refl

pub never_due : (ms : List Standing) (slots : List (Option Tags)) (asked now inflight served : ℕ) → IsServed ms slots asked now inflight served → served < inflight → IsNeverAmong (pos now) slots → IsNeverDue (served_of ms now inflight)
never_due ms slots asked now inflight served kept free never = λ t lt.
    none_at ms slots asked now t inflight served kept free (never (pos (max now t)) (from_now now t))

-- something is chosen now
pub due_now : (ms : List Standing) (slots : List (Option Tags)) (asked now inflight served : ℕ) (due : ℤ) → IsServed ms slots asked now inflight served → served < inflight → IsNextAmong (pos now) slots due → int_le due (pos now) ≡ true → IsNextDue (served_of ms now inflight) 0
due_now ms slots asked now inflight served due kept free next le = record {
  chooses = some_at ms slots asked now 0 inflight served kept free
      (subst (λ z. is_some (choice_among z slots) ≡ true) (same due now le next.from_now) next.chooses);
  none_before = λ t lt. absurd (omega arith);
}
  where
    same : (due : ℤ) (now : ℕ) → int_le due (pos now) ≡ true → int_le (pos now) due ≡ true → due ≡ pos (max now 0)
    same due now h k = let e : max now 0 ≡ now = omega arith in rw e (grind (arith, ints))

-- something is chosen later
pub due_later : (ms : List Standing) (slots : List (Option Tags)) (asked now inflight served due : ℕ) → IsServed ms slots asked now inflight served → served < inflight → IsNextAmong (pos now) slots (pos due) → int_le (pos due) (pos now) ≡ false → IsNextDue (served_of ms now inflight) due
due_later ms slots asked now inflight served due kept free next later =
    let lt : now < due = above now due later in
    record {
      chooses = some_at ms slots asked now due inflight served kept free
          (subst (λ n. is_some (choice_among (pos n) slots) ≡ true) (late now due lt) next.chooses);
      none_before = λ t tl. none_at ms slots asked now t inflight served kept free
          (next.none_before (pos (max now t)) (from_now now t) (below (max now t) due (omega arith)));
    }
  where
    above : (now due : ℕ) → int_le (pos due) (pos now) ≡ false → now < due
    above now due h = grind (arith, ints)

    late : (now due : ℕ) → now < due → due ≡ max now due
    late now due h = omega arith

    below : (t due : ℕ) → t < due → int_lt (pos t) (pos due) ≡ true
    below t due h = grind (arith, ints)

-- nothing is chosen at any moment that there is
pub due_after_all : (ms : List Standing) (slots : List (Option Tags)) (asked now inflight served : ℕ) (due : ℤ) → IsServed ms slots asked now inflight served → served < inflight → IsNextAmong (pos now) slots due → now < 2 ^ 62 → int_le (pos (2 ^ 62)) due ≡ true → IsNeverDue (served_of ms now inflight)
due_after_all ms slots asked now inflight served due kept free next early late = λ t lt.
    none_at ms slots asked now t inflight served kept free (next.none_before (pos (max now t)) (from_now now t) (before (max now t) due (omega arith) late))
  where
    before : (t : ℕ) (due : ℤ) → t < 2 ^ 62 → int_le (pos (2 ^ 62)) due ≡ true → int_lt (pos t) due ≡ true
    before t due h k = grind (arith, ints)

-- what is told of a server, as a moment
abbrev pub Tells : List Standing → ℕ → ℕ → Option ℕ → Type 0
Tells ms now inflight None = IsNeverDue (served_of ms now inflight)
Tells ms now inflight (Some due) = IsNextDue (served_of ms now inflight) due

above_zero : (due : ℤ) (now : ℕ) → int_le due (pos now) ≡ false → due ≡ pos (unsigned_abs due)
above_zero (pos n) now h = refl
above_zero (negsuc n) now h = grind (arith, ints)

not_lt : (due : ℤ) → int_lt due (pos (2 ^ 62)) ≡ false → int_le (pos (2 ^ 62)) due ≡ true
not_lt due h = grind (arith, ints)

module _ (ms : List Standing) (slots : List (Option Tags)) (asked now inflight served : ℕ) (kept : IsServed ms slots asked now inflight served) (free : served < inflight) (early : now < 2 ^ 62) where
  tells_late : (due : ℤ) (b : Bool) → IsNextAmong (pos now) slots due → int_le due (pos now) ≡ false → int_lt due (pos (2 ^ 62)) ≡ b → Tells ms now inflight (if b then Some (unsigned_abs due) else None)
  tells_late due true next late fits =
      let is = above_zero due now late in
      due_later ms slots asked now inflight served (unsigned_abs due) kept free
      (subst (λ (z : ℤ). IsNextAmong (pos now) slots z) is next)
      (subst (λ (z : ℤ). int_le z (pos now) ≡ false) is late)
  tells_late due false next late fits = due_after_all ms slots asked now inflight served due kept free next early (not_lt due fits)

  tells_due : (due : ℤ) (b : Bool) → IsNextAmong (pos now) slots due → int_le due (pos now) ≡ b → Tells ms now inflight (if b then Some 0 else (if int_lt due (pos (2 ^ 62)) then Some (unsigned_abs due) else None))
  tells_due due true next is = due_now ms slots asked now inflight served due kept free next is
  tells_due due false next is = tells_late due (int_lt due (pos (2 ^ 62))) next is refl

  pub tells : (o : Option ℤ) → IfSome o (λ due. IsNextAmong (pos now) slots due) → IfNone o (IsNeverAmong (pos now) slots) → Tells ms now inflight (moment_at now o)
  tells None some none = never_due ms slots asked now inflight served kept free none
  tells (Some due) some none = tells_due due (int_le due (pos now)) some refl

pub told_due : (ms : List Standing) (now inflight : ℕ) (o : Option ℕ) → Tells ms now inflight o → IfSome o (λ due. IsNextDue (served_of ms now inflight) due)
told_due ms now inflight None h = tt
told_due ms now inflight (Some due) h = h

pub told_never : (ms : List Standing) (now inflight : ℕ) (o : Option ℕ) → Tells ms now inflight o → IfNone o (IsNeverDue (served_of ms now inflight))
told_never ms now inflight None h = h
told_never ms now inflight (Some due) h = tt
