-- Every step keeps the order of each export's rows.
use Rattle.std.proofs.Common.{◌≡◌, ◌≢◌, ℕ, suc, ◌<◌, ◌≤◌, Bool, true, false, not, ◌&&◌, ◌||◌, eqb, ◌==◌, List, [], ◌∷◌, ◌++◌, length, filter, slice_get, Option, Some, None, is_some, option_map, if◌then◌else◌, ℤ, pos, ◌-ℤ◌, ◌+ℤ◌, ◌≤ℤ◌, refl, sym, subst, ap, ◌∙◌, arith, ◌+◌, ◌⊎◌, inl, inr}
use Rattle.std.specs.Int.{int_max}
use Rattle.std.specs.List.{AllByRecursion}
use Rattle.std.proofs.lemmas.Int.{ints}
use Rattle.std.proofs.lemmas.Bool.Decides.{nat_tests}
use Rattle.std.proofs.lemmas.Option.{same_Some}
use Rattle.nbd_wire.specs.Grammar.{RequestMessage}
use Rattle.server_table.specs.declared.event.Answer.{Answer}
use Rattle.reply_box.specs.Sessions.{Session}
use Rattle.server_table.specs.declared.event.Answer.TheVariants as said
use Rattle.server_table.specs.Table.{Row, Side, Table, Choice, side, no_side, waits_in, is_idle, p_key, foremost, lower_p, lower_last_p, all_lowered, shifted, lower_r, lower_last_r, credited, put}
use Rattle.tag_clock.specs.Tags.{later}
use Rattle.tag_clock.specs.Intervals.{Intervals}
use Rattle.tag_clock.specs.Clocks.{last_r_for}
use Rattle.server_table.specs.Steps.{Outcome, outcome, changed, with_sessions, with_rates, is_out_row, new_row, with_last, accepted_in, done_side, undone_side, done_in, undone_in, send, sent, entered_in}
use Rattle.server_table.specs.Order.{TagBefore}
use Rattle.lone_export.proofs.Cases.{if_one, some_one}
use Rattle.nbd_base.proofs.Words.{length-change_at}
use Rattle.core_laws.proofs.Lists.{all_here, all-append, length-change_each, get_or-change_at, get_or-change_at_other, get_or-change_each, unseen-change_at, unseen_there}
use Rattle.core_laws.proofs.Order.{larger, lowered_le}
use Rattle.core_laws.proofs.Parts.{put_own, put_other}
use Rattle.core_laws.proofs.Tidy.{IsBefore, Latest, latest, IsKept, Sorted, is_of, rows_of, is_of_all, Sorted-push, all_both, Tidy, tidy_same, tidy_filter, tidy_map}

-- ---- tags

upto_refl : (a : Option ℤ) → TagBefore a a
upto_refl None = tt
upto_refl (Some a) = omega (arith, ints)

pub upto_later : (a : ℤ) (last : Option ℤ) (i t : ℕ) → TagBefore (Some a) last → a ≤ℤ later last i t
upto_later a None i t h = absurd h
upto_later a (Some b) i t h = at_most a b (int_max (b +ℤ pos i) (pos t)) h (larger b i t)
  where
    at_most : (a b c : ℤ) → a ≤ℤ b → b ≤ℤ c → a ≤ℤ c
    at_most a b c h k = omega (arith, ints)

upto_r : (a last : Option ℤ) (interval : Option ℕ) (t : ℕ) → is_some a ≡ is_some interval → TagBefore a last → TagBefore a (option_map (λ i. later last i t) interval)
upto_r None last None t s h = tt
upto_r None last (Some i) t s h = absurd (grind (arith, s))
upto_r (Some a) last None t s h = absurd (grind (arith, s))
upto_r (Some a) last (Some i) t s h = upto_later a last i t h

same_shape : (interval : Option ℕ) (f : ℕ → ℤ) → is_some (option_map f interval) ≡ is_some interval
same_shape None f = refl
same_shape (Some i) f = refl

lower_shape : (a : Option ℤ) (f : ℤ → ℤ) → is_some (option_map f a) ≡ is_some a
lower_shape None f = refl
lower_shape (Some i) f = refl

upto_lowered : (a b : Option ℤ) (c : ℤ) → TagBefore a b → TagBefore (option_map (λ x. x -ℤ c) a) (option_map (λ x. x -ℤ c) b)
upto_lowered None None c h = tt
upto_lowered None (Some b) c h = absurd h
upto_lowered (Some a) None c h = absurd h
upto_lowered (Some a) (Some b) c h = lowered_le a b c h

-- ---- the shift

idle_out : (e : ℕ) (rows : List Row) → is_idle e rows ≡ true → AllByRecursion (λ row. row.out ≡ true) (rows_of e rows)
idle_out e [] h = tt
idle_out e (x ∷ xs) h = go (eqb x.export e) x.out refl refl (idle_out e xs)
  where
    go : (a b : Bool) → eqb x.export e ≡ a → x.out ≡ b → (is_idle e xs ≡ true → AllByRecursion (λ row. row.out ≡ true) (rows_of e xs)) → AllByRecursion (λ row. row.out ≡ true) (rows_of e (x ∷ xs))
    go false b i j ih = rw i (ih (subst (λ (k : Bool). eqb (length (if k && not x.out then (x ∷ filter (waits_in e) xs) else filter (waits_in e) xs)) 0 ≡ true) i h))
    go true true i j ih = rw i (j, ih (subst (λ (k : Bool). eqb (length (if k then (x ∷ filter (waits_in e) xs) else filter (waits_in e) xs)) 0 ≡ true) (both i j) h))
      where
        both : eqb x.export e ≡ true → x.out ≡ true → waits_in e x ≡ false
        both i j = grind (arith, i, j)
    go true false i j ih = absurd (never (length (filter (waits_in e) xs)) (subst (λ (k : Bool). eqb (length (if k then (x ∷ filter (waits_in e) xs) else filter (waits_in e) xs)) 0 ≡ true) (both i j) h))
      where
        both : eqb x.export e ≡ true → x.out ≡ false → waits_in e x ≡ true
        both i j = grind (arith, i, j)

        never : (n : ℕ) → eqb (suc n) 0 ≡ true → ⊥
        never n h = grind (arith, nat_tests, h)

lower_p_order : (by : ℤ) (a b : Row) → IsBefore a b → IsBefore (lower_p by a) (lower_p by b)
lower_p_order by a b h = record {
  number = h.number;
  place = h.place;
  r = h.r;
  l = h.l;
  p = λ o. rw (o, h.place o) (lowered_le a.p b.p by (h.p o));
}

tidy_lowered : (e : ℕ) (by : ℤ) (table : Table) → Tidy e table → Tidy e (all_lowered by table)
tidy_lowered e by table tidy = go (is_idle e table.rows) refl
  where
    late : side (all_lowered by table) e ≡ lower_last_p by table.rows e (side table e)
    late = get_or-change_each (lower_last_p by table.rows) 0 e table.sides no_side tidy.there ∙ ap (λ k. lower_last_p by table.rows k (side table e)) (omega arith)

    go : (b : Bool) → is_idle e table.rows ≡ b → Tidy e (all_lowered by table)
    go true idle = tidy_map e (lower_p by) (λ x. x.out ≡ true) table (all_lowered by table) tidy (λ x. refl) (idle_out e table.rows idle) (λ a b p q h. lower_p_order by a b h)
        (λ x o h. rw (late, idle) (record { number = h.number; shape = h.shape; r = h.r; l = h.l; p = λ w. absurd (differ x.out o w) }))
        (length-change_each (lower_last_p by table.rows) 0 table.sides) refl
      where
        differ : (b : Bool) → b ≡ true → b ≡ false → ⊥
        differ b h k = grind (arith, h, k)
    go false active = tidy_map e (lower_p by) (λ x. Unit {0}) table (all_lowered by table) tidy (λ x. refl) (anything (rows_of e table.rows)) (λ a b p q h. lower_p_order by a b h)
        (λ x o h. rw (late, active) (record { number = h.number; shape = h.shape; r = h.r; l = h.l; p = λ w. rw w (upto_lowered (Some x.p) (side table e).last_p by (h.p w)) }))
        (length-change_each (lower_last_p by table.rows) 0 table.sides) refl
      where
        anything : (xs : List Row) → AllByRecursion (λ x. Unit {0}) xs
        anything [] = tt
        anything (x ∷ xs) = (tt, anything xs)

pub tidy_shifted : (e f t : ℕ) (table : Table) → Tidy e table → Tidy e (shifted f t table)
tidy_shifted e f t table tidy =
    if_one (Tidy e) (is_idle f table.rows)
    (some_one (Tidy e) (foremost p_key (filter (λ row. not row.out) table.rows)) (λ first is. tidy_lowered e (first.p -ℤ pos t) table tidy) tidy)
    tidy

-- ---- an arrival

-- a row that was there is before a new one, and below the latest arrival
before_new : (e s t : ℕ) (q : RequestMessage) (side : Side) (x : Row) → IsKept (latest side) x → IsBefore x (new_row e s t q side)
before_new e s t q side x h = record {
  number = h.number;
  place = λ w. refl;
  r = λ w. upto_r x.r side.last_r side.rates.r_interval t (h.shape w) (h.r w);
  l = λ w. upto_later x.l side.last_l side.rates.l_interval t (h.l w);
  p = λ w. upto_later x.p side.last_p side.rates.p_interval t (h.p w);
}

kept_new : (e s t : ℕ) (q : RequestMessage) (side : Side) (x : Row) → IsKept (latest side) x → IsKept (latest (with_last (new_row e s t q side) side)) x
kept_new e s t q side x h =
    let b : IsBefore x (new_row e s t q side) = before_new e s t q side x h in
    record { number = omega (arith, h.number); shape = h.shape; r = b.r; l = b.l; p = b.p }

new_kept : (e s t : ℕ) (q : RequestMessage) (side : Side) → IsKept (latest (with_last (new_row e s t q side) side)) (new_row e s t q side)
new_kept e s t q side = record {
  number = omega arith;
  shape = λ w. same_shape side.rates.r_interval (λ i. later side.last_r i t);
  r = λ w. upto_refl (new_row e s t q side).r;
  l = λ w. upto_refl (Some (new_row e s t q side).l);
  p = λ w. upto_refl (Some (new_row e s t q side).p);
}

pub is_of_export : (e : ℕ) (x : Row) → is_of e x ≡ true → x.export ≡ e
is_of_export e x h = grind (arith, nat_tests, h)

-- ---- a dispatch

-- the rows that wait have numbers from the first one on
pub from_first : (c : Row) (xs : List Row) → Sorted xs → slice_get (filter (λ x. not x.out) xs) 0 ≡ Some c → AllByRecursion (λ x. x.out ≡ false → c.number ≤ x.number) xs
from_first c [] sorted first = tt
from_first c (x ∷ xs) sorted first = go x.out refl (from_first c xs sorted.1)
  where
    go : (b : Bool) → x.out ≡ b → (slice_get (filter (λ x. not x.out) xs) 0 ≡ Some c → AllByRecursion (λ x. x.out ≡ false → c.number ≤ x.number) xs) → AllByRecursion (λ x. x.out ≡ false → c.number ≤ x.number) (x ∷ xs)
    go true h ih = (λ w. absurd (differ h w), ih (subst (λ (b : Bool). slice_get (if not b then (x ∷ filter (λ y. not y.out) xs) else filter (λ y. not y.out) xs) 0 ≡ Some c) h first))
      where
        differ : x.out ≡ true → x.out ≡ false → ⊥
        differ h k = grind (arith, h, k)
    go false h ih =
        let is : x ≡ c = same_Some x c (subst (λ (b : Bool). slice_get (if not b then (x ∷ filter (λ y. not y.out) xs) else filter (λ y. not y.out) xs) 0 ≡ Some c) h first) in
        (λ w. number x c is, all_here (IsBefore x) (λ y. y.out ≡ false → c.number ≤ y.number) (λ y b w. later_number x c y is b.number) xs sorted.0)
      where
        number : (x c : Row) → x ≡ c → c.number ≤ x.number
        number x c is = omega (arith, ap (λ (k : Row). k.number) is)

        later_number : (x c y : Row) → x ≡ c → x.number < y.number → c.number ≤ y.number
        later_number x c y is lt = omega (arith, lt, ap (λ (k : Row). k.number) is)

-- a row of e, which isn't before c if it is of c's export and waits
record Behind (c : Row) (e : ℕ) (x : Row) : Type 0 where
  of_e : x.export ≡ e
  behind : x.export ≡ c.export → x.out ≡ false → c.number ≤ x.number

pub send_waits : (c x : Row) → (send c x).out ≡ false → x.out ≡ false
send_waits c x h = go x.out h
  where
    go : (b : Bool) → (b || (x.export == c.export && x.number == c.number)) ≡ false → b ≡ false
    go true h = h
    go false h = refl

send_order : (c : Row) (e : ℕ) (a b : Row) → Behind c e a → Behind c e b → IsBefore a b → IsBefore (send c a) (send c b)
send_order c e a b p q h = record {
  number = h.number;
  place = λ w. place a b h.number (send_waits c a w) (h.place (send_waits c a w)) w p.behind p.of_e q.of_e;
  r = λ w. h.r (send_waits c a w);
  l = λ w. h.l (send_waits c a w);
  p = λ w. h.p (send_waits c a w);
}
  where
    place : (a b : Row) → a.number < b.number → a.out ≡ false → b.out ≡ false → (a.out || (a.export == c.export && a.number == c.number)) ≡ false → (a.export ≡ c.export → a.out ≡ false → c.number ≤ a.number) → a.export ≡ e → b.export ≡ e → (b.out || (b.export == c.export && b.number == c.number)) ≡ false
    place a b lt i j k behind m n = rw j (go (eqb b.export c.export) refl)
      where
        same : eqb b.export c.export ≡ true → a.export ≡ c.export
        same h = grind (arith, nat_tests, h, m, n)

        go : (t : Bool) → eqb b.export c.export ≡ t → (t && b.number == c.number) ≡ false
        go false h = refl
        go true h = above (behind (same h) i)
          where
            above : c.number ≤ a.number → eqb b.number c.number ≡ false
            above le = grind (arith, nat_tests, le, lt)

send_kept : (c : Row) (late : Latest) (x : Row) → IsKept late x → IsKept late (send c x)
send_kept c late x h = record { number = h.number; shape = λ w. h.shape (send_waits c x w); r = λ w. h.r (send_waits c x w); l = λ w. h.l (send_waits c x w); p = λ w. h.p (send_waits c x w) }

-- c is the first of its export that waits, where that export is e
pub keeps_sent : (e : ℕ) (table : Table) (chosen : Choice) → (e ≡ chosen.row.export → slice_get (filter (λ x. not x.out) (rows_of e table.rows)) 0 ≡ Some chosen.row) → Tidy e table → Tidy e (sent chosen.row table)
keeps_sent e table chosen first tidy =
    let late : latest (side (sent chosen.row table) e) ≡ latest (side table e) = unseen-change_at latest (λ side. record side { count = side.count + 1 }) (λ x. refl) chosen.row.export e table.sides no_side in
    tidy_map e (send chosen.row) (Behind chosen.row e) table (sent chosen.row table) tidy (λ x. refl) (behind (eqb e chosen.row.export) refl)
    (λ a b p q h. send_order chosen.row e a b p q h)
    (λ x q h. rw late (send_kept chosen.row (latest (side table e)) x h))
    (length-change_at (λ side. record side { count = side.count + 1 }) chosen.row.export table.sides) refl
  where
    c : Row
    c = chosen.row

    behind : (b : Bool) → eqb e chosen.row.export ≡ b → AllByRecursion (Behind chosen.row e) (rows_of e table.rows)
    behind true h = all_both (λ x. x.export ≡ e) (λ x. x.out ≡ false → chosen.row.number ≤ x.number) (Behind chosen.row e) (λ x of_e le. record { of_e = of_e; behind = λ k w. le w }) (rows_of e table.rows) (is_of_all e table.rows) (from_first chosen.row (rows_of e table.rows) tidy.sorted (first (equal h)))
      where
        equal : eqb e chosen.row.export ≡ true → e ≡ chosen.row.export
        equal h = grind (arith, nat_tests, h)
    behind false h = all_here (λ x. x.export ≡ e) (Behind chosen.row e) (λ x of_e. record { of_e = of_e; behind = λ k w. absurd (differ (sym of_e ∙ k)) }) (rows_of e table.rows) (is_of_all e table.rows)
      where
        differ : e ≡ chosen.row.export → ⊥
        differ k = grind (arith, nat_tests, h, k)

-- the credit
credit_order : (by f e : ℕ) (a b : Row) → a.export ≡ e → b.export ≡ e → IsBefore a b → IsBefore (lower_r by f a) (lower_r by f b)
credit_order by f e a b i j h = record { number = h.number; place = h.place; r = λ w. go (eqb e f) refl w (h.place w) (h.r w); l = h.l; p = h.p }
  where
    go : (t : Bool) → eqb e f ≡ t → a.out ≡ false → b.out ≡ false → TagBefore a.r b.r → TagBefore (lower_r by f a).r (lower_r by f b).r
    go true t w v u = rw (i, w, j, v, t) (upto_lowered a.r b.r (pos by) u)
    go false t w v u = rw (i, w, j, v, t) u

pub tidy_credited : (e by f : ℕ) (table : Table) → Tidy e table → Tidy e (credited by f table)
tidy_credited e by f table tidy =
    tidy_map e (lower_r by f) (λ x. x.export ≡ e) table (credited by f table) tidy (λ x. refl) (is_of_all e table.rows) (λ a b i j h. credit_order by f e a b i j h)
    (λ x i h. keeps x i h (eqb e f) refl) (length-change_at (lower_last_r by) f table.sides) refl
  where
    keeps : (x : Row) → x.export ≡ e → IsKept (latest (side table e)) x → (t : Bool) → eqb e f ≡ t → IsKept (latest (side (credited by f table) e)) (lower_r by f x)
    keeps x i h true t = rw late (record {
      number = h.number;
      shape = λ w. rw (i, t, w) (lower_shape x.r (λ r. r -ℤ pos by) ∙ h.shape w);
      r = λ w. rw (i, t, w) (upto_lowered x.r (side table e).last_r (pos by) (h.r w));
      l = h.l;
      p = h.p;
    })
      where
        equal : e ≡ f
        equal = grind (arith, nat_tests, t)

        late : side (credited by f table) e ≡ lower_last_r by (side table e)
        late = subst (λ (k : ℕ). side (credited by k table) e ≡ lower_last_r by (side table e)) equal (get_or-change_at (lower_last_r by) e table.sides no_side tidy.there)
    keeps x i h false t = rw late (record {
      number = h.number;
      shape = λ w. rw (i, t) (h.shape w);
      r = λ w. rw (i, t) (h.r w);
      l = h.l;
      p = h.p;
    })
      where
        differ : e ≡ f → ⊥
        differ k = grind (arith, nat_tests, t, k)

        late : side (credited by f table) e ≡ side table e
        late = get_or-change_at_other (lower_last_r by) f e table.sides no_side differ

-- ---- a change of one export's side

-- the number of the next request and the last L and P stay, and the last R stays or goes; where a request waits, the last R
-- and the rates stay
pub record IsUnseen (f : ℕ) (table : Table) (change : Side → Side) : Type 0 where
  pub next : (change (side table f)).next ≡ (side table f).next
  pub l : (change (side table f)).last_l ≡ (side table f).last_l
  pub p : (change (side table f)).last_p ≡ (side table f).last_p
  pub r : ((change (side table f)).last_r ≡ (side table f).last_r) ⊎ ((change (side table f)).last_r ≡ None)
  pub active : is_idle f table.rows ≡ false → ((change (side table f)).last_r ≡ (side table f).last_r) × ((change (side table f)).rates ≡ (side table f).rates)

-- other sessions leave all of these
pub sessions_unseen : (f : ℕ) (table : Table) (sessions : List Session) → IsUnseen f table (with_sessions sessions)
sessions_unseen f table sessions = record { next = refl; l = refl; p = refl; r = inl refl; active = λ h. (refl, refl) }

-- so do other rates where nothing waits
pub rates_unseen : (f : ℕ) (table : Table) (rates : Intervals) → not (is_idle f table.rows) ≡ false → IsUnseen f table (with_rates rates)
rates_unseen f table rates idle = record { next = refl; l = refl; p = refl; r = stays_or_goes rates.r_interval (side table f).last_r; active = λ h. absurd (differ (is_idle f table.rows) idle h) }
  where
    stays_or_goes : (o : Option ℕ) (last : Option ℤ) → (last_r_for o last ≡ last) ⊎ (last_r_for o last ≡ None)
    stays_or_goes None last = inr refl
    stays_or_goes (Some i) last = inl refl

    differ : (b : Bool) → not b ≡ false → b ≡ false → ⊥
    differ b h k = grind (arith, h, k)

tidy_side : (e f : ℕ) (table : Table) (change : Side → Side) → IsUnseen f table change → Tidy e table → Tidy e (changed f table table.rows change)
tidy_side e f table change unseen tidy = record {
  there = rw (length-change_at counting f table.sides) tidy.there;
  sorted = tidy.sorted;
  kept = go (is_idle f table.rows) (eqb e f) refl refl;
}
  where
    counting : Side → Side
    counting side = record (change side) { count = side.count + 1 }

    next : (side (changed f table table.rows change) e).next ≡ (side table e).next
    next = unseen_there (λ (s : Side). s.next) counting f e table.sides no_side unseen.next

    waits : is_idle f table.rows ≡ false → latest (counting (side table f)) ≡ latest (side table f)
    waits active = λ i. record { next = unseen.next i; interval = ((unseen.active active).1 i).r_interval; r = (unseen.active active).0 i; l = unseen.l i; p = unseen.p i }

    differ : (b : Bool) → b ≡ true → b ≡ false → ⊥
    differ b h k = grind (arith, h, k)

    go : (idle own : Bool) → is_idle f table.rows ≡ idle → eqb e f ≡ own → AllByRecursion (IsKept (latest (side (changed f table table.rows change) e))) (rows_of e table.rows)
    go false own h k = rw (unseen_there latest counting f e table.sides no_side (waits h)) tidy.kept
    go true false h k = rw (get_or-change_at_other counting f e table.sides no_side (λ same. other same)) tidy.kept
      where
        other : e ≡ f → ⊥
        other same = grind (arith, nat_tests, k, same)
    go true true h k =
        all_both (λ x. x.out ≡ true) (IsKept (latest (side table e))) (IsKept (latest (side (changed f table table.rows change) e)))
        (λ x out kept. record { number = rw next kept.number; shape = λ w. absurd (differ x.out out w); r = λ w. absurd (differ x.out out w); l = λ w. absurd (differ x.out out w); p = λ w. absurd (differ x.out out w) })
        (rows_of e table.rows) (idle_out e table.rows (subst (λ (n : ℕ). is_idle n table.rows ≡ true) (sym same) h)) tidy.kept
      where
        same : e ≡ f
        same = grind (arith, nat_tests, k)

module _ {A : Type 0} where
  -- ---- a side, and rows that are performed

  pub record Keeps (e : ℕ) (new : Outcome A) : Type 0 where
    pub tidy : Tidy e new.table

  pub keeps_all : (e : ℕ) (table : Table) (answer : Answer A) → Tidy e table → Keeps e (outcome table answer)
  keeps_all e table answer tidy = record { tidy = tidy }

  pub keeps_side : (e f : ℕ) (table : Table) (change : Side → Side) (answer : Answer A) → IsUnseen f table change → Tidy e table → Keeps e (outcome (changed f table table.rows change) answer)
  keeps_side e f table change answer unseen tidy = record { tidy = tidy_side e f table change unseen tidy }

  pub keeps_done : (e f : ℕ) (table : Table) (row : Row) → Tidy e table → Keeps e (outcome (done_in f row table) (said.Performed true))
  keeps_done e f table row tidy = record {
    tidy =
        tidy_filter e (λ other. not (is_out_row f row.number other)) table (done_in f row table) tidy (length-change_at _ f table.sides) refl
        (unseen-change_at latest (λ side. record (done_side row side) { count = side.count + 1 }) (λ x. refl) f e table.sides no_side);
  }

  pub keeps_undone : (e f : ℕ) (table : Table) (row : Row) → Tidy e table → Keeps e (outcome (undone_in f row table) (said.Performed false))
  keeps_undone e f table row tidy = record {
    tidy =
        tidy_filter e (λ other. not (is_out_row f row.number other)) table (undone_in f row table) tidy (length-change_at _ f table.sides) refl
        (unseen-change_at latest (λ side. record (undone_side row side) { count = side.count + 1 }) (λ x. refl) f e table.sides no_side);
  }

  pub keeps_accepted : (e s t : ℕ) (q : RequestMessage) (table : Table) → Tidy e table → Keeps e (accepted_in e s t q table)
  keeps_accepted e s t q table tidy =
      let row : Row = new_row e s t q (side table e) in
      let rows : rows_of e (put row table.rows) ≡ rows_of e table.rows ++ row ∷ [] = put_own (is_of e) row (λ x h. is_of_export e x h) (here e) table.rows in
      let late : latest (side (entered_in e s t q table) e) ≡ latest (with_last row (side table e)) = ap latest (get_or-change_at (λ side. record (with_last row side) { count = side.count + 1 }) e table.sides no_side tidy.there) in
      record {
        tidy = record {
          there = rw (length-change_at (λ side. record (with_last row side) { count = side.count + 1 }) e table.sides) tidy.there;
          sorted = rw rows (Sorted-push (rows_of e table.rows) row tidy.sorted (all_here (IsKept (latest (side table e))) (λ x. IsBefore x row) (λ x h. before_new e s t q (side table e) x h) (rows_of e table.rows) tidy.kept));
          kept = rw (rows, late) (all-append (IsKept (latest (with_last row (side table e)))) (rows_of e table.rows) (row ∷ [])
              (all_here (IsKept (latest (side table e))) (IsKept (latest (with_last row (side table e)))) (λ x h. kept_new e s t q (side table e) x h) (rows_of e table.rows) tidy.kept)
              (new_kept e s t q (side table e), tt));
        };
      }
    where
      here : (e : ℕ) → eqb e e ≡ true
      here e = grind (arith, nat_tests)

  pub keeps_accepted_other : (e f s t : ℕ) (q : RequestMessage) (table : Table) → e ≢ f → Tidy e table → Keeps e (accepted_in f s t q table)
  keeps_accepted_other e f s t q table differ tidy =
      let row : Row = new_row f s t q (side table f) in
      record {
        tidy = tidy_same e table (entered_in f s t q table) tidy
            (length-change_at (λ side. record (with_last row side) { count = side.count + 1 }) f table.sides)
            (put_other (is_of e) row e (λ x h. is_of_export e x h) (away differ) table.rows)
            (ap latest (get_or-change_at_other (λ side. record (with_last row side) { count = side.count + 1 }) f e table.sides no_side differ));
      }
    where
      away : e ≢ f → eqb f e ≡ false
      away d = grind (arith, nat_tests, d)
