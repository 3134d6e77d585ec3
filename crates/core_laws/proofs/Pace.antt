-- How far the tags of an export's requests are ahead of its first arrival.
use Rattle.std.proofs.Common.{◌≡◌, ◌≢◌, ℕ, suc, ◌+◌, ◌*◌, ◌<◌, ◌≤◌, Bool, true, false, not, ◌&&◌, ◌||◌, eqb, ◌==◌, List, [], ◌∷◌, ◌++◌, length, map, filter, slice_get, Option, Some, None, is_some, option_map, unwrap_or, if◌then◌else◌, ℤ, pos, ◌-ℤ◌, ◌+ℤ◌, ◌≤ℤ◌, refl, sym, subst, ap, ◌∙◌, arith}
use Rattle.std.specs.Int.{int_max}
use Rattle.std.specs.List.{AllByRecursion}
use Rattle.std.proofs.lemmas.Int.{ints}
use Rattle.std.proofs.lemmas.Bool.Decides.{nat_tests}
use Rattle.std.proofs.lemmas.Option.{none-some}
use Rattle.nbd_wire.specs.Grammar.{RequestMessage}
use Rattle.tag_clock.specs.declared.Phase.{Phase}
use Rattle.tag_clock.specs.declared.Phase.TheVariants.{Reservation, Weight}
use Rattle.server_table.specs.declared.event.Answer.{Answer}
use Rattle.nbd_base.specs.Words.{when_some}
use Rattle.tag_clock.specs.Intervals.{Intervals}
use Rattle.server_table.specs.declared.event.Answer.TheVariants as said
use Rattle.server_table.specs.Table.{Row, Side, Table, Choice, side, no_side, is_idle, p_key, foremost, lower_p, lower_last_p, all_lowered, shifted, lower_r, lower_last_r, credited, put}
use Rattle.tag_clock.specs.Tags.{later}
use Rattle.server_table.specs.Steps.{Outcome, outcome, changed, is_out_row, new_row, with_last, accepted_in, done_side, undone_side, done_in, undone_in, send, sent, is_by_weight, with_credit, entered_in}
use Rattle.lone_export.proofs.Cases.{if_one, some_one}
use Rattle.core_laws.proofs.Lists.{all_here, all-append, all-filter, all-map, filter_swap, filter-map, get_or-change_at, get_or-change_at_other, unseen-change_at, unseen_there, unseen-change_each}
use Rattle.core_laws.proofs.Order.{larger}
use Rattle.core_laws.proofs.Parts.{put_own, put_other}
use Rattle.core_laws.proofs.Tidy.{is_of, rows_of, is_of_all, all_both, map_same_on, Tidy}
use Rattle.core_laws.proofs.Kept.{IsUnseen, is_of_export, from_first, send_waits}

-- a tag is there, and reaches a bound with so much added
abbrev pub Reaches : Option ℤ → ℕ → ℕ → Type 0
Reaches None add bound = ⊥
Reaches (Some v) add bound = pos bound ≤ℤ (v +ℤ pos add)

-- the phase whose choices are counted; how far the L tags of an export's requests are apart at least, and how far its R tags
-- are, which matters in that phase alone
pub record Strides : Type 0 where
  pub phase : Phase
  pub limit : ℕ
  pub reservation : Option ℕ

abbrev pub r_step : Strides → ℕ
r_step strides = unwrap_or strides.reservation 0

-- choices by reservation are counted, and there is a reservation
pub record LooksAtR (strides : Strides) : Type 0 where
  pub phase : strides.phase ≡ Reservation
  pub some : is_some strides.reservation ≡ true

-- where they are counted, the interval in force of the reservation is that
abbrev pub Reserves : Strides → Intervals → Type 0
Reserves strides rates = strides.phase ≡ Reservation → rates.r_interval ≡ strides.reservation

-- a waiting row's number is at least low, and its tags are as far from t as its number and the credits say
pub record IsPaced (strides : Strides) (t low credits : ℕ) (row : Row) : Type 0 where
  pub number : row.out ≡ false → low ≤ row.number
  pub l : row.out ≡ false → pos (t + row.number * strides.limit) ≤ℤ row.l
  pub r : row.out ≡ false → LooksAtR strides → Reaches row.r (credits * r_step strides) (t + row.number * r_step strides)

pub record Pace : Type 0 where
  pub next : ℕ
  pub r : Option ℤ
  pub l : Option ℤ

abbrev pub pace : Side → Pace
pace side = record { next = side.next; r = side.last_r; l = side.last_l }

pub record IsAhead (strides : Strides) (t low credits : ℕ) (pace : Pace) : Type 0 where
  pub number : low ≤ pace.next
  pub l : Reaches pace.l strides.limit (t + pace.next * strides.limit)
  pub r : LooksAtR strides → Reaches pace.r (suc credits * r_step strides) (t + pace.next * r_step strides)

pub record Paced (strides : Strides) (e t low credits : ℕ) (table : Table) : Type 0 where
  pub reserves : Reserves strides (side table e).rates
  pub side : IsAhead strides t low credits (pace (side table e))
  pub rows : AllByRecursion (IsPaced strides t low credits) (rows_of e table.rows)

pub paced_by : (strides : Strides) (e t low credits : ℕ) (old new : Table) → Paced strides e t low credits old → (side new e).rates ≡ (side old e).rates → pace (side new e) ≡ pace (side old e) → AllByRecursion (IsPaced strides t low credits) (rows_of e new.rows) → Paced strides e t low credits new
paced_by strides e t low credits old new paced rates same rows = record { reserves = rw rates paced.reserves; side = rw same paced.side; rows = rows }

-- ---- a new row

later_reaches : (last : Option ℤ) (interval t add bound : ℕ) → Reaches last (interval + add) bound → pos bound ≤ℤ (later last interval t +ℤ pos add)
later_reaches None interval t add bound h = absurd h
later_reaches (Some v) interval t add bound h = go v (int_max (v +ℤ pos interval) (pos t)) interval add bound h (larger v interval t) (at_least v interval t)
  where
    at_least : (v : ℤ) (i t : ℕ) → (v +ℤ pos i) ≤ℤ int_max (v +ℤ pos i) (pos t)
    at_least v i t = grind (arith, ints)

    go : (v m : ℤ) (i add bound : ℕ) → pos bound ≤ℤ (v +ℤ pos (i + add)) → v ≤ℤ m → (v +ℤ pos i) ≤ℤ m → pos bound ≤ℤ (m +ℤ pos add)
    go v m i add bound h k l = omega (arith, ints)

-- what is added may be more
more_reaches : (v : Option ℤ) (m n bound : ℕ) → m ≤ n → Reaches v m bound → Reaches v n bound
more_reaches None m n bound le h = absurd h
more_reaches (Some v) m n bound le h = go v m n bound le h
  where
    go : (v : ℤ) (m n bound : ℕ) → m ≤ n → pos bound ≤ℤ (v +ℤ pos m) → pos bound ≤ℤ (v +ℤ pos n)
    go v m n bound le h = omega (arith, ints)

new_l : (last : Option ℤ) (interval t bound : ℕ) → Reaches last interval bound → pos bound ≤ℤ later last interval t
new_l last interval t bound h = zero_added (later last interval t) bound (later_reaches last interval t 0 bound (subst (λ (k : ℕ). Reaches last k bound) (plus interval) h))
  where
    plus : (n : ℕ) → n ≡ n + 0
    plus n = omega arith

    zero_added : (v : ℤ) (bound : ℕ) → pos bound ≤ℤ (v +ℤ pos 0) → pos bound ≤ℤ v
    zero_added v bound h = omega (arith, ints)

new_r_reaches : (last : Option ℤ) (interval : Option ℕ) (t credits bound : ℕ) → (is_some interval ≡ true → Reaches last (suc credits * unwrap_or interval 0) bound) → is_some interval ≡ true → Reaches (option_map (λ i. later last i t) interval) (credits * unwrap_or interval 0) bound
new_r_reaches last None t credits bound h s = absurd (grind (arith, s))
new_r_reaches last (Some i) t credits bound h s = later_reaches last i t (credits * i) bound (subst (λ (k : ℕ). Reaches last k bound) (suc_times credits i) (h s))
  where
    suc_times : (c i : ℕ) → suc c * i ≡ i + c * i
    suc_times c i = omega arith

-- one more interval on both sides
one_more : (v : Option ℤ) (add interval bound more : ℕ) → bound + interval ≡ more → Reaches v add bound → Reaches v (add + interval) more
one_more None add interval bound more e h = absurd h
one_more (Some v) add interval bound more e h = go v add interval bound more e h
  where
    go : (v : ℤ) (add interval bound more : ℕ) → bound + interval ≡ more → pos bound ≤ℤ (v +ℤ pos add) → pos more ≤ℤ (v +ℤ pos (add + interval))
    go v add interval bound more e h = omega (arith, ints)

-- the new row, and the side after it; the interval in force of the limit is at least the stride
new_paced : (strides : Strides) (e t low credits s u : ℕ) (q : RequestMessage) (side : Side) → Reserves strides side.rates → strides.limit ≤ side.rates.l_interval → IsAhead strides t low credits (pace side) → IsPaced strides t low credits (new_row e s u q side)
new_paced strides e t low credits s u q side reserves le h = record {
  number = λ w. h.number;
  l = λ w. new_l side.last_l side.rates.l_interval u (t + side.next * strides.limit) (more_reaches side.last_l strides.limit side.rates.l_interval (t + side.next * strides.limit) le h.l);
  r = λ w looks. subst (λ (o : Option ℕ). Reaches (option_map (λ i. later side.last_r i u) o) (credits * r_step strides) (t + side.next * r_step strides)) (sym (reserves looks.phase))
      (new_r_reaches side.last_r strides.reservation u credits (t + side.next * r_step strides) (λ some. h.r looks) looks.some);
}

ahead_new : (strides : Strides) (e t low credits s u : ℕ) (q : RequestMessage) (side : Side) → Reserves strides side.rates → strides.limit ≤ side.rates.l_interval → IsAhead strides t low credits (pace side) → IsAhead strides t low credits (pace (with_last (new_row e s u q side) side))
ahead_new strides e t low credits s u q side reserves le h =
    let new : IsPaced strides t low credits (new_row e s u q side) = new_paced strides e t low credits s u q side reserves le h in
    record {
      number = omega (arith, h.number);
      l = one_l (new_row e s u q side).l strides.limit t side.next (new.l refl);
      r = λ looks. one_r (new_row e s u q side).r (r_step strides) t side.next credits (new.r refl looks);
    }
  where
    one_l : (v : ℤ) (i t n : ℕ) → pos (t + n * i) ≤ℤ v → pos (t + (n + 1) * i) ≤ℤ (v +ℤ pos i)
    one_l v i t n h = omega (arith, ints)

    one_r : (v : Option ℤ) (i t n c : ℕ) → Reaches v (c * i) (t + n * i) → Reaches v (suc c * i) (t + (n + 1) * i)
    one_r v i t n c h = subst (λ (k : ℕ). Reaches v k (t + (n + 1) * i)) (times c i) (one_more v (c * i) i (t + n * i) (t + (n + 1) * i) (bounds t n i) h)
      where
        times : (c i : ℕ) → c * i + i ≡ suc c * i
        times c i = omega arith

        bounds : (t n i : ℕ) → (t + n * i) + i ≡ t + (n + 1) * i
        bounds t n i = omega arith

rows_filtered : (e : ℕ) (P : Row → Type 0) (p : Row → Bool) (rows : List Row) → AllByRecursion P (rows_of e rows) → AllByRecursion P (rows_of e (filter p rows))
rows_filtered e P p rows a = rw (filter_swap (is_of e) p rows) (all-filter P p (rows_of e rows) a)

rows_mapped : (e : ℕ) (P Q : Row → Type 0) (f : Row → Row) (rows : List Row) → ((x : Row) → (f x).export ≡ x.export) → ((x : Row) → P x → Q (f x)) → AllByRecursion P (rows_of e rows) → AllByRecursion Q (rows_of e (map f rows))
rows_mapped e P Q f rows same h a = rw (filter-map (is_of e) f (λ x. ap (λ k. k == e) (same x)) rows) (all-map P Q f h (rows_of e rows) a)

paced_lowered : (strides : Strides) (e t low credits : ℕ) (by : ℤ) (table : Table) → Paced strides e t low credits table → Paced strides e t low credits (all_lowered by table)
paced_lowered strides e t low credits by table h =
    paced_by strides e t low credits table (all_lowered by table) h (unseen-change_each (λ (s : Side). s.rates) (lower_last_p by table.rows) (λ k x. refl) 0 e table.sides no_side) (unseen-change_each pace (lower_last_p by table.rows) (λ k x. refl) 0 e table.sides no_side)
    (rows_mapped e (IsPaced strides t low credits) (IsPaced strides t low credits) (lower_p by) table.rows (λ x. refl) (λ x k. record { number = k.number; l = k.l; r = k.r }) h.rows)

pub paced_shifted : (strides : Strides) (e t low credits f u : ℕ) (table : Table) → Paced strides e t low credits table → Paced strides e t low credits (shifted f u table)
paced_shifted strides e t low credits f u table h =
    if_one (Paced strides e t low credits) (is_idle f table.rows)
    (some_one (Paced strides e t low credits) (foremost p_key (filter (λ row. not row.out) table.rows)) (λ first is. paced_lowered strides e t low credits (first.p -ℤ pos u) table h) h)
    h

-- ---- a choice

-- another export's
pub paced_sent_other : (strides : Strides) (e t low credits : ℕ) (table : Table) (chosen : Choice) → e ≢ chosen.row.export → Paced strides e t low credits table → Paced strides e t low credits (sent chosen.row table)
paced_sent_other strides e t low credits table chosen differ h =
    paced_by strides e t low credits table (sent chosen.row table) h (unseen-change_at (λ (s : Side). s.rates) (λ side. record side { count = side.count + 1 }) (λ x. refl) chosen.row.export e table.sides no_side) (unseen-change_at pace (λ side. record side { count = side.count + 1 }) (λ x. refl) chosen.row.export e table.sides no_side)
    (rows_mapped e (IsPaced strides t low credits) (IsPaced strides t low credits) (send chosen.row) table.rows (λ x. refl)
    (λ x k. record { number = λ w. k.number (send_waits chosen.row x w); l = λ w. k.l (send_waits chosen.row x w); r = λ w. k.r (send_waits chosen.row x w) }) h.rows)

-- its own: the numbers that wait are above the chosen one
record After (c : Row) (x : Row) : Type 0 where
  same : x.export ≡ c.export
  behind : x.out ≡ false → c.number ≤ x.number

sent_after : (strides : Strides) (t low credits : ℕ) (c x : Row) → low ≤ c.number → After c x → IsPaced strides t low credits x → IsPaced strides t (suc low) credits (send c x)
sent_after strides t low credits c x le after k = record {
  number = λ w. above x.number c.number low le (after.behind (send_waits c x w)) (unequal x.out after.same w);
  l = λ w. k.l (send_waits c x w);
  r = λ w. k.r (send_waits c x w);
}
  where
    above : (m n low : ℕ) → low ≤ n → n ≤ m → m ≢ n → suc low ≤ m
    above m n low a b d = omega (arith, d)

    unequal : (b : Bool) → x.export ≡ c.export → (b || (x.export == c.export && x.number == c.number)) ≡ false → x.number ≢ c.number
    unequal true s w n = grind (arith, w)
    unequal false s w n = grind (arith, nat_tests, s, w, n)

pub paced_sent_own : (strides : Strides) (e t low credits : ℕ) (table : Table) (chosen : Choice) → e ≡ chosen.row.export → Tidy e table → slice_get (filter (λ x. not x.out) (rows_of e table.rows)) 0 ≡ Some chosen.row → low ≤ chosen.row.number → chosen.row.number < (side table e).next → Paced strides e t low credits table → Paced strides e t (suc low) credits (sent chosen.row table)
paced_sent_own strides e t low credits table chosen same tidy first le lt h = record {
  reserves = rw (unseen-change_at (λ (s : Side). s.rates) (λ side. record side { count = side.count + 1 }) (λ x. refl) chosen.row.export e table.sides no_side) h.reserves;
  side = rw (unseen-change_at pace (λ side. record side { count = side.count + 1 }) (λ x. refl) chosen.row.export e table.sides no_side) (record { number = omega (arith, le, lt); l = h.side.l; r = h.side.r });
  rows = rw (filter-map (is_of e) (send chosen.row) (λ x. refl) table.rows) (all_map_both (rows_of e table.rows) afters h.rows);
}
  where
    afters : AllByRecursion (After chosen.row) (rows_of e table.rows)
    afters = all_both (λ x. x.export ≡ e) (λ x. x.out ≡ false → chosen.row.number ≤ x.number) (After chosen.row) (λ x of_e le. record { same = of_e ∙ same; behind = le }) (rows_of e table.rows) (is_of_all e table.rows) (from_first chosen.row (rows_of e table.rows) tidy.sorted first)

    all_map_both : (xs : List Row) → AllByRecursion (After chosen.row) xs → AllByRecursion (IsPaced strides t low credits) xs → AllByRecursion (IsPaced strides t (suc low) credits) (map (send chosen.row) xs)
    all_map_both [] a b = tt
    all_map_both (x ∷ xs) a b = (sent_after strides t low credits chosen.row x le a.0 b.0, all_map_both xs a.1 b.1)

-- the credit, which only a reservation sees
lowered_reaches : (v : Option ℤ) (add i bound : ℕ) → Reaches v add bound → Reaches (option_map (λ r. r -ℤ pos i) v) (add + i) bound
lowered_reaches None add i bound h = absurd h
lowered_reaches (Some v) add i bound h = go v add i bound h
  where
    go : (v : ℤ) (add i bound : ℕ) → pos bound ≤ℤ (v +ℤ pos add) → pos bound ≤ℤ ((v -ℤ pos i) +ℤ pos (add + i))
    go v add i bound h = omega (arith, ints)

more_credit : (v : Option ℤ) (c i bound : ℕ) → Reaches v (c * i) bound → Reaches (option_map (λ r. r -ℤ pos i) v) (suc c * i) bound
more_credit v c i bound h = subst (λ (k : ℕ). Reaches (option_map (λ r. r -ℤ pos i) v) k bound) (times c i) (lowered_reaches v (c * i) i bound h)
  where
    times : (c i : ℕ) → c * i + i ≡ suc c * i
    times c i = omega arith

paced_credited : (strides : Strides) (e t low credits by : ℕ) (table : Table) → (side table e).rates.r_interval ≡ Some by → e < length table.sides → Paced strides e t low credits table → Paced strides e t low (suc credits) (credited by e table)
paced_credited strides e t low credits by table is lt h = record {
  reserves = rw (ap (λ (s : Side). s.rates) (get_or-change_at (lower_last_r by) e table.sides no_side lt)) h.reserves;
  side = rw (ap pace (get_or-change_at (lower_last_r by) e table.sides no_side lt)) (record { number = h.side.number; l = h.side.l; r = λ looks. subst (λ (i : ℕ). Reaches (option_map (λ r. r -ℤ pos i) (side table e).last_r) (suc (suc credits) * r_step strides) (t + (side table e).next * r_step strides)) (step_is looks.phase) (more_credit (side table e).last_r (suc credits) (r_step strides) (t + (side table e).next * r_step strides) (h.side.r looks)) });
  rows = rw (filter-map (is_of e) (lower_r by e) (λ x. refl) table.rows) (mapped (rows_of e table.rows) (is_of_all e table.rows) h.rows);
}
  where
    step_is : strides.phase ≡ Reservation → r_step strides ≡ by
    step_is counted = ap (λ o. unwrap_or o 0) (sym (h.reserves counted) ∙ is)

    here : (e : ℕ) → eqb e e ≡ true
    here e = grind (arith, nat_tests)

    one : (x : Row) → x.export ≡ e → IsPaced strides t low credits x → IsPaced strides t low (suc credits) (lower_r by e x)
    one x of_e k = record {
      number = k.number;
      l = k.l;
      r = λ w looks. rw (of_e, here e, w) (subst (λ (i : ℕ). Reaches (option_map (λ r. r -ℤ pos i) x.r) (suc credits * r_step strides) (t + x.number * r_step strides)) (step_is looks.phase) (more_credit x.r credits (r_step strides) (t + x.number * r_step strides) (k.r w looks)));
    }

    mapped : (xs : List Row) → AllByRecursion (λ x. x.export ≡ e) xs → AllByRecursion (IsPaced strides t low credits) xs → AllByRecursion (IsPaced strides t low (suc credits)) (map (lower_r by e) xs)
    mapped [] a b = tt
    mapped (x ∷ xs) a b = (one x a.0 b.0, mapped xs a.1 b.1)

-- without a reservation in force the number of credits is any
no_reservation : (strides : Strides) (e t low c d : ℕ) (table : Table) → (side table e).rates.r_interval ≡ None → Paced strides e t low c table → Paced strides e t low d table
no_reservation strides e t low c d table none h = record {
  reserves = h.reserves;
  side = record { number = h.side.number; l = h.side.l; r = λ looks. absurd (never looks) };
  rows = all_here (IsPaced strides t low c) (IsPaced strides t low d) (λ x k. record { number = k.number; l = k.l; r = λ w looks. absurd (never looks) }) (rows_of e table.rows) h.rows;
}
  where
    differ : (o : Option ℕ) → None ≡ o → is_some o ≡ true → ⊥
    differ None e some = absurd (grind (arith, some))
    differ (Some i) e some = none-some i e

    never : LooksAtR strides → ⊥
    never looks = differ strides.reservation (sym none ∙ h.reserves looks.phase) looks.some

-- credit for another export
paced_credited_other : (strides : Strides) (e t low credits by f : ℕ) (table : Table) → e ≢ f → Paced strides e t low credits table → Paced strides e t low credits (credited by f table)
paced_credited_other strides e t low credits by f table differ h =
    paced_by strides e t low credits table (credited by f table) h (ap (λ (s : Side). s.rates) (get_or-change_at_other (lower_last_r by) f e table.sides no_side differ)) (ap pace (get_or-change_at_other (lower_last_r by) f e table.sides no_side differ))
    (rw (filter-map (is_of e) (lower_r by f) (λ x. refl) table.rows ∙ map_same_on (lower_r by f) (λ x. x.export ≡ e) (λ x of_e. rw (away x of_e) refl) (rows_of e table.rows) (is_of_all e table.rows)) h.rows)
  where
    away : (x : Row) → x.export ≡ e → eqb x.export f ≡ false
    away x h = grind (arith, nat_tests, h, differ)

-- the credits after a choice
abbrev pub credits_after : Phase → ℕ → ℕ
credits_after Reservation n = n
credits_after Weight n = suc n

pub paced_with_credit : (strides : Strides) (e t low credits : ℕ) (table : Table) (chosen : Choice) → e ≡ chosen.row.export → e < length table.sides → Paced strides e t low credits table → Paced strides e t low (credits_after chosen.phase credits) (with_credit chosen table)
paced_with_credit strides e t low credits table chosen same lt h = go chosen.phase
  where
    interval : (o : Option ℕ) → (side table e).rates.r_interval ≡ o → Paced strides e t low (suc credits) (when_some o (λ by. credited by chosen.row.export table) table)
    interval None is = no_reservation strides e t low credits (suc credits) table is h
    interval (Some by) is = subst (λ (k : ℕ). Paced strides e t low (suc credits) (credited by k table)) same (paced_credited strides e t low credits by table is lt h)

    go : (phase : Phase) → Paced strides e t low (credits_after phase credits) (if is_by_weight phase then when_some (side table chosen.row.export).rates.r_interval (λ by. credited by chosen.row.export table) table else table)
    go Reservation = h
    go Weight = interval (side table chosen.row.export).rates.r_interval (ap (λ (k : ℕ). (side table k).rates.r_interval) same)

pub paced_with_credit_other : (strides : Strides) (e t low credits : ℕ) (table : Table) (chosen : Choice) → e ≢ chosen.row.export → Paced strides e t low credits table → Paced strides e t low credits (with_credit chosen table)
paced_with_credit_other strides e t low credits table chosen differ h =
    if_one P (is_by_weight chosen.phase)
    (some_one P (side table chosen.row.export).rates.r_interval (λ by i. paced_credited_other strides e t low credits by chosen.row.export table differ h) h)
    h
  where
    P : Table → Type 0
    P = Paced strides e t low credits

-- where choices by reservation are counted, the rates and the last R of e stay
abbrev pub KeepsReservation : Strides → ℕ → ℕ → Table → (Side → Side) → Type 0
KeepsReservation strides e f table change = strides.phase ≡ Reservation → e ≡ f → ((change (side table f)).last_r ≡ (side table f).last_r) × ((change (side table f)).rates ≡ (side table f).rates)

-- a change of a side that no waiting row sees
pub paced_side : (strides : Strides) (e t low credits f : ℕ) (table : Table) (change : Side → Side) → IsUnseen f table change → KeepsReservation strides e f table change → Paced strides e t low credits table → Paced strides e t low credits (changed f table table.rows change)
paced_side strides e t low credits f table change unseen keeps h = record {
  reserves = λ counted. ap (λ (rates : Intervals). rates.r_interval) (rates counted) ∙ h.reserves counted;
  side = record {
    number = subst (λ (n : ℕ). low ≤ n) (sym next) h.side.number;
    l = rw (next, seen (λ (s : Side). s.last_l) unseen.l) h.side.l;
    r = λ looks. rw (next, last_r looks.phase) (h.side.r looks);
  };
  rows = h.rows;
}
  where
    counting : Side → Side
    counting side = record (change side) { count = side.count + 1 }

    seen : {X : Type 0} (see : Side → X) → see (counting (side table f)) ≡ see (side table f) → see (side (changed f table table.rows change) e) ≡ see (side table e)
    seen see same = unseen_there see counting f e table.sides no_side same

    next : (side (changed f table table.rows change) e).next ≡ (side table e).next
    next = seen (λ (s : Side). s.next) unseen.next

    by_export : {X : Type 0} (see : Side → X) → (e ≡ f → see (counting (side table f)) ≡ see (side table f)) → (b : Bool) → eqb e f ≡ b → see (side (changed f table table.rows change) e) ≡ see (side table e)
    by_export see same true own = seen see (same (grind (arith, nat_tests, own)))
    by_export see same false own = ap see (get_or-change_at_other counting f e table.sides no_side (λ k. differ k))
      where
        differ : e ≡ f → ⊥
        differ k = grind (arith, nat_tests, own, k)

    rates : strides.phase ≡ Reservation → (side (changed f table table.rows change) e).rates ≡ (side table e).rates
    rates counted = by_export (λ (s : Side). s.rates) (λ same. (keeps counted same).1) (eqb e f) refl

    last_r : strides.phase ≡ Reservation → (side (changed f table table.rows change) e).last_r ≡ (side table e).last_r
    last_r counted = by_export (λ (s : Side). s.last_r) (λ same. (keeps counted same).0) (eqb e f) refl

module _ {A : Type 0} where
  -- ---- what each change keeps

  pub record Runs (strides : Strides) (e t low credits : ℕ) (new : Outcome A) : Type 0 where
    pub paced : Paced strides e t low credits new.table

  pub runs_all : (strides : Strides) (e t low credits : ℕ) (table : Table) (answer : Answer A) → Paced strides e t low credits table → Runs strides e t low credits (outcome table answer)
  runs_all strides e t low credits table answer h = record { paced = h }

  pub runs_side : (strides : Strides) (e t low credits f : ℕ) (table : Table) (change : Side → Side) (answer : Answer A) → IsUnseen f table change → KeepsReservation strides e f table change → Paced strides e t low credits table → Runs strides e t low credits (outcome (changed f table table.rows change) answer)
  runs_side strides e t low credits f table change answer unseen keeps h = record { paced = paced_side strides e t low credits f table change unseen keeps h }

  pub runs_done : (strides : Strides) (e t low credits f : ℕ) (table : Table) (row : Row) → Paced strides e t low credits table → Runs strides e t low credits (outcome (done_in f row table) (said.Performed true))
  runs_done strides e t low credits f table row h = record {
    paced =
        paced_by strides e t low credits table (done_in f row table) h
        (unseen-change_at (λ (s : Side). s.rates) (λ side. record (done_side row side) { count = side.count + 1 }) (λ x. refl) f e table.sides no_side)
        (unseen-change_at pace (λ side. record (done_side row side) { count = side.count + 1 }) (λ x. refl) f e table.sides no_side)
        (rows_filtered e (IsPaced strides t low credits) (λ other. not (is_out_row f row.number other)) table.rows h.rows);
  }

  pub runs_undone : (strides : Strides) (e t low credits f : ℕ) (table : Table) (row : Row) → Paced strides e t low credits table → Runs strides e t low credits (outcome (undone_in f row table) (said.Performed false))
  runs_undone strides e t low credits f table row h = record {
    paced =
        paced_by strides e t low credits table (undone_in f row table) h
        (unseen-change_at (λ (s : Side). s.rates) (λ side. record (undone_side row side) { count = side.count + 1 }) (λ x. refl) f e table.sides no_side)
        (unseen-change_at pace (λ side. record (undone_side row side) { count = side.count + 1 }) (λ x. refl) f e table.sides no_side)
        (rows_filtered e (IsPaced strides t low credits) (λ other. not (is_out_row f row.number other)) table.rows h.rows);
  }

  pub runs_accepted : (strides : Strides) (e t low credits s u : ℕ) (q : RequestMessage) (table : Table) → e < length table.sides → strides.limit ≤ (side table e).rates.l_interval → Paced strides e t low credits table → Runs strides e t low credits (accepted_in e s u q table)
  runs_accepted strides e t low credits s u q table lt le h =
      let row : Row = new_row e s u q (side table e) in
      let rows : rows_of e (put row table.rows) ≡ rows_of e table.rows ++ row ∷ [] = put_own (is_of e) row (λ x h. is_of_export e x h) (here e) table.rows in
      let late : side (entered_in e s u q table) e ≡ record (with_last row (side table e)) { count = (side table e).count + 1 } = get_or-change_at (λ side. record (with_last row side) { count = side.count + 1 }) e table.sides no_side lt in
      record {
        paced = record {
          reserves = rw (ap (λ (s : Side). s.rates) late) h.reserves;
          side = rw (ap pace late) (ahead_new strides e t low credits s u q (side table e) h.reserves le h.side);
          rows = rw rows (all-append (IsPaced strides t low credits) (rows_of e table.rows) (row ∷ []) h.rows (new_paced strides e t low credits s u q (side table e) h.reserves le h.side, tt));
        };
      }
    where
      here : (e : ℕ) → eqb e e ≡ true
      here e = grind (arith, nat_tests)

  pub runs_accepted_other : (strides : Strides) (e t low credits f s u : ℕ) (q : RequestMessage) (table : Table) → e ≢ f → Paced strides e t low credits table → Runs strides e t low credits (accepted_in f s u q table)
  runs_accepted_other strides e t low credits f s u q table differ h =
      let row : Row = new_row f s u q (side table f) in
      let same : side (entered_in f s u q table) e ≡ side table e = get_or-change_at_other (λ side. record (with_last row side) { count = side.count + 1 }) f e table.sides no_side differ in
      record {
        paced = paced_by strides e t low credits table (entered_in f s u q table) h (ap (λ (s : Side). s.rates) same) (ap pace same)
            (rw (put_other (is_of e) row e (λ x h. is_of_export e x h) (away differ) table.rows) h.rows);
      }
    where
      away : e ≢ f → eqb f e ≡ false
      away d = grind (arith, nat_tests, d)
