-- The row that comes before all others is the first that waits in its export.
use Rattle.std.proofs.Common.{◌≡◌, ◌⊎◌, ℕ, zero, suc, ◌<◌, Bool, true, false, eqb, List, [], ◌∷◌, ◌++◌, length, filter, get_or, drop, slice_get, Option, Some, None, option_to_list, if◌then◌else◌, ℤ, refl, sym, subst, ap, ◌∙◌, arith, inl, inr}
use Rattle.std.proofs.lemmas.Int.{ints}
use Rattle.std.proofs.lemmas.Bool.Decides.{nat_tests}
use Rattle.std.proofs.lemmas.Option.{same_Some, none-some}
use Rattle.server_table.specs.declared.event.Event.{Event}
use Rattle.nbd_base.specs.Words.{when_some}
use Rattle.server_table.specs.Table.{Row, Table, Setup, waits_in, is_due_by_reservation, is_due_by_limit, precedes, foremost, r_key, p_key, choice, opening_table, choice_with}
use Rattle.server_table.specs.Steps.{step, table_after, last_table}
use Rattle.core_laws.specs.Heads.{first_rows}
use Rattle.core_laws.specs.Runs.{Run}
use Rattle.core_laws.proofs.Order.{before, Mem, mem_filter, mem_all, mem_of_filter, mem_passes, foremost_mem, foremost_first}
use Rattle.core_laws.proofs.Tidy.{Sorted, rows_of, Lowers, chosen_first, Tidy}
use Rattle.core_laws.proofs.Chosen.{lowers_r, lowers_p, tidy_step}
use Rattle.core_laws.proofs.There.{AllThere, IsThere, there_step}
use Rattle.core_laws.proofs.Runs.{opening_tidy}

mem_append_left : (x : Row) (xs ys : List Row) → Mem x xs → Mem x (xs ++ ys)
mem_append_left x [] ys m = absurd m
mem_append_left x (z ∷ xs) ys (inl is) = inl is
mem_append_left x (z ∷ xs) ys (inr m) = inr (mem_append_left x xs ys m)

mem_append_right : (x : Row) (xs ys : List Row) → Mem x ys → Mem x (xs ++ ys)
mem_append_right x [] ys m = m
mem_append_right x (z ∷ xs) ys m = inr (mem_append_right x xs ys m)

mem_append : (x : Row) (xs ys : List Row) → Mem x (xs ++ ys) → Mem x xs ⊎ Mem x ys
mem_append x [] ys m = inr m
mem_append x (z ∷ xs) ys (inl is) = inl (inl is)
mem_append x (z ∷ xs) ys (inr m) = go (mem_append x xs ys m)
  where
    go : Mem x xs ⊎ Mem x ys → Mem x (z ∷ xs) ⊎ Mem x ys
    go (inl h) = inl (inr h)
    go (inr h) = inr h

-- the first that waits in its export
abbrev IsFirst : List Row → Row → Type 0
IsFirst rows x = slice_get (filter (waits_in x.export) rows) 0 ≡ Some x

pub first_mem : (xs : List Row) (x : Row) → slice_get xs 0 ≡ Some x → Mem x xs
first_mem [] x h = absurd (none-some x h)
first_mem (y ∷ ys) x h = inl (same_Some y x h)

in_first : (n : ℕ) (rows : List Row) (x : Row) → x.export < n → IsFirst rows x → Mem x (first_rows n rows)
in_first zero rows x lt first = absurd (omega (arith, lt))
in_first (suc n) rows x lt first = go (eqb x.export n) refl (in_first n rows x)
  where
    go : (b : Bool) → eqb x.export n ≡ b → (x.export < n → IsFirst rows x → Mem x (first_rows n rows)) → Mem x (first_rows n rows ++ option_to_list (slice_get (filter (waits_in n) rows) 0))
    go true h ih = mem_append_right x (first_rows n rows) (option_to_list (slice_get (filter (waits_in n) rows) 0)) (rw (subst (λ (k : ℕ). slice_get (filter (waits_in k) rows) 0 ≡ Some x) same first) (inl refl))
      where
        same : x.export ≡ n
        same = grind (arith, nat_tests, h)
    go false h ih = mem_append_left x (first_rows n rows) (option_to_list (slice_get (filter (waits_in n) rows) 0)) (ih below first)
      where
        below : x.export < n
        below = grind (arith, nat_tests, h, lt)

of_first : (n : ℕ) (rows : List Row) (x : Row) → Mem x (first_rows n rows) → IsFirst rows x × Mem x rows
of_first zero rows x m = absurd m
of_first (suc n) rows x m = go (of_first n rows x) (slice_get (filter (waits_in n) rows) 0) refl (mem_append x (first_rows n rows) (option_to_list (slice_get (filter (waits_in n) rows) 0)) m)
  where
    export_of : (y : Row) → waits_in n y ≡ true → n ≡ y.export
    export_of y h = grind (arith, nat_tests, h)

    go : (Mem x (first_rows n rows) → IsFirst rows x × Mem x rows) → (o : Option Row) → slice_get (filter (waits_in n) rows) 0 ≡ o → Mem x (first_rows n rows) ⊎ Mem x (option_to_list o) → IsFirst rows x × Mem x rows
    go ih o is (inl m) = ih m
    go ih None is (inr m) = absurd m
    go ih (Some y) is (inr (inr m)) = absurd m
    go ih (Some y) is (inr (inl same)) =
        let first : slice_get (filter (waits_in n) rows) 0 ≡ Some x = is ∙ ap Some same in
        let m : Mem x (filter (waits_in n) rows) = first_mem (filter (waits_in n) rows) x first in
        (subst (λ (k : ℕ). slice_get (filter (waits_in k) rows) 0 ≡ Some x) (export_of x (mem_passes (waits_in n) x rows m)) first, mem_of_filter (waits_in n) x rows m)

-- neither comes before the other: they are of one export
tied : (a b : ℤ) (e f m n : ℕ) → before a b e f m n ≡ false → before b a f e n m ≡ false → e ≡ f
tied a b e f m n h k = grind (arith, ints, nat_tests, h, k)

pub foremost_some : (key : Row → ℤ) (xs : List Row) (x : Row) → Mem x xs → (c : Row) × (foremost key xs ≡ Some c)
foremost_some key [] x m = absurd m
foremost_some key (y ∷ ys) x m = go (foremost key ys) refl
  where
    go : (o : Option Row) → foremost key ys ≡ o → (c : Row) × (when_some (foremost key ys) (λ best. if precedes key best y then Some best else Some y) (Some y) ≡ Some c)
    go None is = (y, rw is refl)
    go (Some best) is = pick (precedes key best y) refl
      where
        pick : (b : Bool) → precedes key best y ≡ b → (c : Row) × (when_some (foremost key ys) (λ best. if precedes key best y then Some best else Some y) (Some y) ≡ Some c)
        pick true h = (best, rw (is, h) refl)
        pick false h = (y, rw (is, h) refl)

foremost_none : (key : Row → ℤ) (xs : List Row) → ((x : Row) → Mem x xs → ⊥) → foremost key xs ≡ None
foremost_none key [] h = refl
foremost_none key (x ∷ xs) h = absurd (h x (inl refl))

-- the rows of each export stand in order
pub record Ordered (setup : Setup) (table : Table) : Type 0 where
  pub there : AllThere setup table
  pub sorted : (e : ℕ) → e < length setup.exports → Sorted (rows_of e table.rows)

pub foremost_of_first : (key : Row → ℤ) (due : Row → Bool) → Lowers key due → (setup : Setup) (table : Table) → Ordered setup table → foremost key (filter due table.rows) ≡ foremost key (filter due (first_rows (length setup.exports) table.rows))
foremost_of_first key due low setup table ordered = go (foremost key (filter due table.rows)) refl
  where
    n : ℕ
    n = length setup.exports

    go : (o : Option Row) → foremost key (filter due table.rows) ≡ o → foremost key (filter due table.rows) ≡ foremost key (filter due (first_rows n table.rows))
    go None is = is ∙ sym (foremost_none key (filter due (first_rows n table.rows)) (λ x m. none x m))
      where
        none : (x : Row) → Mem x (filter due (first_rows n table.rows)) → ⊥
        none x m = let some : (c : Row) × (foremost key (filter due table.rows) ≡ Some c) = foremost_some key (filter due table.rows) x (mem_filter due x table.rows (mem_passes due x (first_rows n table.rows) m) (of_first n table.rows x (mem_of_filter due x (first_rows n table.rows) m)).1) in none-some some.0 (sym is ∙ some.1)
    go (Some c) is =
        let m : Mem c (filter due table.rows) = foremost_mem key (filter due table.rows) c is in
        let lt : c.export < n = mem_all (IsThere setup) c table.rows ordered.there.rows (mem_of_filter due c table.rows m) in
        let first : IsFirst table.rows c = chosen_first key due low table.rows c is (ordered.sorted c.export lt) in
        let due_c : due c ≡ true = mem_passes due c table.rows m in
        let here : Mem c (filter due (first_rows n table.rows)) = mem_filter due c (first_rows n table.rows) due_c (in_first n table.rows c lt first) in
        let other : (d : Row) × (foremost key (filter due (first_rows n table.rows)) ≡ Some d) = foremost_some key (filter due (first_rows n table.rows)) c here in
        let d : Row = other.0 in
        let d_here : Mem d (filter due (first_rows n table.rows)) = foremost_mem key (filter due (first_rows n table.rows)) d other.1 in
        let d_first_rows : Mem d (first_rows n table.rows) = mem_of_filter due d (first_rows n table.rows) d_here in
        let d_head : IsFirst table.rows d × Mem d table.rows = of_first n table.rows d d_first_rows in
        let d_due : due d ≡ true = mem_passes due d (first_rows n table.rows) d_here in
        let under : precedes key d c ≡ false = mem_all (λ x. precedes key x c ≡ false) d (filter due table.rows) (foremost_first key (filter due table.rows) c is) (mem_filter due d table.rows d_due d_head.1) in
        let over : precedes key c d ≡ false = mem_all (λ x. precedes key x d ≡ false) c (filter due (first_rows n table.rows)) (foremost_first key (filter due (first_rows n table.rows)) d other.1) here in
        let exports : c.export ≡ d.export = tied (key c) (key d) c.export d.export c.number d.number over under in
        let same : Some c ≡ Some d = sym first ∙ ap (λ k. slice_get (filter (waits_in k) table.rows) 0) exports ∙ d_head.0 in
        is ∙ same ∙ sym other.1

pub same_choice : (setup : Setup) (table : Table) → Ordered setup table → choice setup.inflight table ≡ choice_with setup.inflight (length (filter (λ row. row.out) table.rows)) (record table { rows = first_rows (length setup.exports) table.rows })
same_choice setup table ordered = rw (← foremost_of_first r_key (is_due_by_reservation table.now) (lowers_r table.now) setup table ordered, ← foremost_of_first p_key (is_due_by_limit table.now) (lowers_p table.now) setup table ordered) refl

module _ {A : Type 0} where
  pub tidy_all : (setup : Setup) (e : ℕ) (events : List (Event A)) (table : Table) (marks : List Bool) → Tidy e table → Tidy e (table_after setup table events marks)
  tidy_all setup e [] table marks tidy = tidy
  tidy_all setup e (event ∷ events) table marks tidy = tidy_all setup e events (step setup table event (get_or marks 0 true)).table (drop 1 marks) (tidy_step setup table e event (get_or marks 0 true) tidy)

  there_all : (setup : Setup) (events : List (Event A)) (table : Table) (marks : List Bool) → AllThere setup table → AllThere setup (table_after setup table events marks)
  there_all setup [] table marks a = a
  there_all setup (event ∷ events) table marks a = there_all setup events (step setup table event (get_or marks 0 true)).table (drop 1 marks) (there_step setup table event (get_or marks 0 true) a)

  pub ordered_last : (run : Run A) → Ordered run.setup (last_table run.setup run.events run.marks)
  ordered_last run = record {
    there = there_all run.setup run.events (opening_table run.setup) run.marks (record { rows = tt });
    sorted = λ e lt. (tidy_all run.setup e run.events (opening_table run.setup) run.marks (opening_tidy run.setup e lt)).sorted;
  }

  pub heads_are_enough : (run : Run A) (t : ℕ) → choice run.setup.inflight (record (last_table run.setup run.events run.marks) { now = t }) ≡ choice_with run.setup.inflight (length (filter (λ row. row.out) (last_table run.setup run.events run.marks).rows)) (record (last_table run.setup run.events run.marks) { now = t; rows = first_rows (length run.setup.exports) (last_table run.setup run.events run.marks).rows })
  heads_are_enough run t =
      let last : Ordered run.setup (last_table run.setup run.events run.marks) = ordered_last run in
      same_choice run.setup (record (last_table run.setup run.events run.marks) { now = t }) (record { there = record { rows = last.there.rows }; sorted = last.sorted })
