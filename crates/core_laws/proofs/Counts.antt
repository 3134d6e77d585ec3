-- Counts of choices over whole runs.
use Rattle.std.proofs.Common.{◌≡◌, ◌⊎◌, ℕ, zero, suc, ◌+◌, ◌-◌, ◌*◌, ◌/◌, ◌<◌, ◌≤◌, ◌^◌, max, Bool, true, false, not, ◌&&◌, eqb, nat_le, ◌==◌, List, [], ◌∷◌, ◌++◌, length, map, filter, find, get_or, drop, slice_get, Option, Some, None, is_some, option_map, unwrap_or, if◌then◌else◌, MatchOption, ℤ, pos, ◌-ℤ◌, ◌+ℤ◌, ◌≤ℤ◌, int_le, refl, sym, subst, ap, ◌∙◌, arith, inl, inr, mul-le-mul_right, le-div_iff_mul-le}
use Rattle.std.specs.List.{AllByRecursion}
use Rattle.std.proofs.lemmas.Int.{ints}
use Rattle.std.proofs.lemmas.Bool.Decides.{nat_tests}
use Rattle.std.proofs.lemmas.Option.{same_Some, none-some}
use Rattle.nbd_wire.specs.Grammar.{RequestMessage}
use Rattle.tag_clock.specs.Intervals.{Intervals}
use Rattle.tag_clock.specs.declared.Phase.{Phase}
use Rattle.tag_clock.specs.declared.Phase.TheVariants.{Reservation, Weight}
use Rattle.lone_export.specs.Alone.{Alone}
use Rattle.server_table.specs.declared.event.Event.{Event}
use Rattle.server_table.specs.declared.event.Event.TheVariants.{Attach, Arrive, Dispatch, Perform, Take, Leave, Gone, Retune}
use Rattle.server_table.specs.declared.event.Answer.{Answer}
use Rattle.nbd_base.specs.Words.{when_some}
use Rattle.nbd_commands.specs.Verdict.{verdict_of}
use Rattle.nbd_commands.specs.Meaning.{may_want_memory}
use Rattle.reply_box.specs.Sessions.{Session, is_here, is_open_at, is_left_at, is_here_at, outbox_at}
use Rattle.server_table.specs.declared.event.Answer.TheVariants as said
use Rattle.server_table.specs.Table.{Row, Side, Table, Setup, Choice, side, no_side, waits_in, is_due_by_reservation, is_due_by_limit, due_by_reservation, due_by_limit, foremost, r_key, p_key, choice, is_idle, all_lowered, lower_p, lower_last_p, credited, lower_r, lower_last_r, shifted, put}
use Rattle.tag_clock.specs.Tags.{later}
use Rattle.server_table.specs.Steps.{Outcome, step, changed, with_sessions, with_rates, is_out_row, outstanding_in, accepted_in, new_row, with_last, done_side, undone_side, done_in, undone_in, send, sent, is_by_weight, with_credit, answers_of, entered_in, seated, outcome}
use Rattle.core_laws.specs.Counts.{is_phase, now_after, is_choice_in, choices, accepted_at, first_accepted, is_retune_of}
use Rattle.lone_export.proofs.Cases.{if_one, if_told, some_one, some_told}
use Rattle.nbd_base.proofs.Words.{length-change_at}
use Rattle.core_laws.proofs.Lists.{unseen-change_at, unseen_there, unseen-change_each, get_or-change_at, get_or-change_at_other, filter-map, filter_swap}
use Rattle.core_laws.proofs.Order.{Mem, mem_filter, mem_all, mem_of_filter, mem_passes, foremost_mem}
use Rattle.core_laws.proofs.Tidy.{is_of, rows_of, filter-and, IsKept, latest, Tidy}
use Rattle.core_laws.proofs.Chosen.{IsChosen, is_chosen, choice_first, and_left, and_right, not_true, tidy_step, tidy_now}
use Rattle.core_laws.proofs.Limits.{credit_now}
use Rattle.core_laws.proofs.Kept.{IsUnseen, sessions_unseen, rates_unseen, tidy_shifted, is_of_export}
use Rattle.core_laws.proofs.Parts.{put_own, put_other, part_shifted, length-shifted}
use Rattle.core_laws.proofs.Pace.{Pace, pace, Reaches, Strides, r_step, LooksAtR, Reserves, KeepsReservation, IsPaced, Paced, IsAhead, runs_side, runs_done, runs_undone, runs_accepted, runs_accepted_other, paced_shifted, paced_sent_other, paced_sent_own, credits_after, paced_with_credit, paced_with_credit_other}

-- of two numbers that of the phase; the interval that counts in it
abbrev pub by_phase : ℕ → ℕ → Phase → ℕ
by_phase w r Reservation = r
by_phase w r Weight = w

abbrev pub interval_by : Strides → Phase → ℕ
interval_by strides Reservation = r_step strides
interval_by strides Weight = strides.limit

abbrev pub interval_of : Strides → ℕ
interval_of strides = interval_by strides strides.phase

abbrev one_if : Bool → ℕ
one_if b = if b then 1 else 0

-- ---- a dispatch

chosen_mem : (table : Table) (chosen : Choice) → IsChosen table chosen → Mem chosen.row table.rows
chosen_mem table chosen (inl h) = mem_of_filter (is_due_by_reservation table.now) chosen.row table.rows (foremost_mem r_key (due_by_reservation table) chosen.row h.0)
chosen_mem table chosen (inr h) = mem_of_filter (is_due_by_limit table.now) chosen.row table.rows (foremost_mem p_key (due_by_limit table) chosen.row h.0)

chosen_waits : (table : Table) (chosen : Choice) → IsChosen table chosen → chosen.row.out ≡ false
chosen_waits table chosen (inl h) = not_true chosen.row.out (and_left (not chosen.row.out) _ (mem_passes (is_due_by_reservation table.now) chosen.row table.rows (foremost_mem r_key (due_by_reservation table) chosen.row h.0)))
chosen_waits table chosen (inr h) = not_true chosen.row.out (and_left (not chosen.row.out) _ (mem_passes (is_due_by_limit table.now) chosen.row table.rows (foremost_mem p_key (due_by_limit table) chosen.row h.0)))

chosen_of : (e : ℕ) (table : Table) (chosen : Choice) → IsChosen table chosen → e ≡ chosen.row.export → Mem chosen.row (rows_of e table.rows)
chosen_of e table chosen is same = mem_filter (is_of e) chosen.row table.rows (here e chosen.row.export same) (chosen_mem table chosen is)
  where
    here : (e f : ℕ) → e ≡ f → eqb f e ≡ true
    here e f same = grind (arith, nat_tests, same)

-- what the tags of the chosen row say of the counts before
weight_due : (t w r n interval now : ℕ) (l : ℤ) → w + r ≤ n → pos (t + n * interval) ≤ℤ l → l ≤ℤ pos now → t + w * interval ≤ now
weight_due t w r n interval now l le far due = omega (arith, ints, mul-le-mul_right {m = w} {n = n} interval (omega (arith, le)))

reservation_due : (t w r n interval now : ℕ) (x : ℤ) → w + r ≤ n → pos (t + n * interval) ≤ℤ (x +ℤ pos (w * interval)) → x ≤ℤ pos now → t + r * interval ≤ now
reservation_due t w r n interval now x le far due = omega (arith, ints, mul-le-mul_right {m = w + r} {n = n} interval le)

under : (l : ℤ) (m : ℕ) → int_le l (pos m) ≡ true → l ≤ℤ pos m
under l m h = grind (arith, ints, h)

chosen_due : (strides : Strides) (e t w r : ℕ) (table : Table) (chosen : Choice) → Tidy e table → Paced strides e t (w + r) w table → (is : IsChosen table chosen) → e ≡ chosen.row.export → chosen.phase ≡ strides.phase → t + by_phase w r strides.phase * interval_of strides ≤ table.now
chosen_due strides e t w r table chosen tidy paced is same counted = go is strides.phase refl
  where
    m : Mem chosen.row (rows_of e table.rows)
    m = chosen_of e table chosen is same

    far : IsPaced strides t (w + r) w chosen.row
    far = mem_all (IsPaced strides t (w + r) w) chosen.row (rows_of e table.rows) paced.rows m

    kept : IsKept (latest (side table e)) chosen.row
    kept = mem_all (IsKept (latest (side table e))) chosen.row (rows_of e table.rows) tidy.kept m

    waits : chosen.row.out ≡ false
    waits = chosen_waits table chosen is

    reservation_weight : Reservation ≡ Weight → ⊥
    reservation_weight h = grind (arith, h)

    at_r : strides.phase ≡ Reservation → (o : Option ℤ) → is_some o ≡ is_some strides.reservation → (LooksAtR strides → Reaches o (w * r_step strides) (t + chosen.row.number * r_step strides)) → when_some o (λ x. int_le x (pos table.now)) false ≡ true → t + r * r_step strides ≤ table.now
    at_r counts None shape reach due = absurd (grind (arith, due))
    at_r counts (Some x) shape reach due = reservation_due t w r chosen.row.number (r_step strides) table.now x (far.number waits) (reach (record { phase = counts; some = sym shape })) (under x table.now due)

    go : IsChosen table chosen → (phase : Phase) → strides.phase ≡ phase → t + by_phase w r phase * interval_by strides phase ≤ table.now
    go (inl h) Reservation p = at_r p chosen.row.r (kept.shape waits ∙ ap is_some (paced.reserves p)) (far.r waits) (and_right (not chosen.row.out) _ (mem_passes (is_due_by_reservation table.now) chosen.row table.rows (foremost_mem r_key (due_by_reservation table) chosen.row h.0)))
    go (inl h) Weight p = absurd (reservation_weight (sym h.1 ∙ counted ∙ p))
    go (inr h) Reservation p = absurd (reservation_weight (sym p ∙ sym counted ∙ h.1))
    go (inr h) Weight p = weight_due t w r chosen.row.number strides.limit table.now chosen.row.l (far.number waits) (far.l waits) (under chosen.row.l table.now (and_right (not chosen.row.out) _ (mem_passes (is_due_by_limit table.now) chosen.row table.rows (foremost_mem p_key (due_by_limit table) chosen.row h.0))))

paced_now : (strides : Strides) (e t low credits n : ℕ) (table : Table) → Paced strides e t low credits table → Paced strides e t low credits (record table { now = n })
paced_now strides e t low credits n table h = record { reserves = h.reserves; side = h.side; rows = h.rows }

shifted_now : (f t : ℕ) (table : Table) → (shifted f t table).now ≡ table.now
shifted_now f t table =
    if_one (λ (a : Table). a.now ≡ table.now) (is_idle f table.rows)
    (some_one (λ (a : Table). a.now ≡ table.now) (foremost p_key (filter (λ row. not row.out) table.rows)) (λ first is. refl) refl) refl

-- ---- the bound over a run

-- so many choices fit between t and b
abbrev pub Within : ℕ → ℕ → ℕ → ℕ → Type 0
Within t interval b n = (j : ℕ) → n ≡ suc j → t + j * interval ≤ b

-- ---- before the first arrival

pub record Virgin (strides : Strides) (e : ℕ) (table : Table) : Type 0 where
  pub next : (side table e).next ≡ 0
  pub r : (side table e).last_r ≡ None
  pub l : (side table e).last_l ≡ None
  pub reserves : Reserves strides (side table e).rates
  pub rows : rows_of e table.rows ≡ []

virgin_by : (strides : Strides) (e : ℕ) (old new : Table) → Virgin strides e old → (side new e).rates ≡ (side old e).rates → pace (side new e) ≡ pace (side old e) → rows_of e new.rows ≡ [] → Virgin strides e new
virgin_by strides e old new h rates same rows = record { next = ap (λ (p : Pace). p.next) same ∙ h.next; r = ap (λ (p : Pace). p.r) same ∙ h.r; l = ap (λ (p : Pace). p.l) same ∙ h.l; reserves = rw rates h.reserves; rows = rows }

virgin_shifted : (strides : Strides) (e f t : ℕ) (table : Table) → Virgin strides e table → Virgin strides e (shifted f t table)
virgin_shifted strides e f t table h =
    if_one (Virgin strides e) (is_idle f table.rows)
    (some_one (Virgin strides e) (foremost p_key (filter (λ row. not row.out) table.rows)) (λ first is. lower (first.p -ℤ pos t)) h) h
  where
    lower : (by : ℤ) → Virgin strides e (all_lowered by table)
    lower by = virgin_by strides e table (all_lowered by table) h (unseen-change_each (λ (s : Side). s.rates) (lower_last_p by table.rows) (λ k x. refl) 0 e table.sides no_side) (unseen-change_each pace (lower_last_p by table.rows) (λ k x. refl) 0 e table.sides no_side)
        (filter-map (is_of e) (lower_p by) (λ x. refl) table.rows ∙ ap (map (lower_p by)) h.rows)

-- a change of a side that no waiting row sees
virgin_side : (strides : Strides) (e f : ℕ) (table : Table) (change : Side → Side) → IsUnseen f table change → KeepsReservation strides e f table change → Virgin strides e table → Virgin strides e (changed f table table.rows change)
virgin_side strides e f table change unseen keeps h = by_export (eqb e f) refl
  where
    counting : Side → Side
    counting side = record (change side) { count = side.count + 1 }

    by_export : (b : Bool) → eqb e f ≡ b → Virgin strides e (changed f table table.rows change)
    by_export false own = virgin_by strides e table (changed f table table.rows change) h (ap (λ (s : Side). s.rates) same) (ap pace same) h.rows
      where
        differ : e ≡ f → ⊥
        differ k = grind (arith, nat_tests, own, k)

        same : side (changed f table table.rows change) e ≡ side table e
        same = get_or-change_at_other counting f e table.sides no_side (λ k. differ k)
    by_export true own = record {
      next = unseen_there (λ (s : Side). s.next) counting f e table.sides no_side unseen.next ∙ h.next;
      r = last_r unseen.r;
      l = unseen_there (λ (s : Side). s.last_l) counting f e table.sides no_side unseen.l ∙ h.l;
      reserves = λ counted. ap (λ (rates : Intervals). rates.r_interval) (unseen_there (λ (s : Side). s.rates) counting f e table.sides no_side (keeps counted same).1) ∙ h.reserves counted;
      rows = h.rows;
    }
      where
        same : e ≡ f
        same = grind (arith, nat_tests, own)

        none : (side table f).last_r ≡ None
        none = subst (λ (k : ℕ). (side table k).last_r ≡ None) same h.r

        last_r : ((change (side table f)).last_r ≡ (side table f).last_r) ⊎ ((change (side table f)).last_r ≡ None) → (side (changed f table table.rows change) e).last_r ≡ None
        last_r (inl kept) = unseen_there (λ (s : Side). s.last_r) counting f e table.sides no_side kept ∙ h.r
        last_r (inr gone) = unseen_there (λ (s : Side). s.last_r) counting f e table.sides no_side (gone ∙ sym none) ∙ h.r

-- its first accepted arrival
record FirstRow (strides : Strides) (e s t : ℕ) (q : RequestMessage) (side : Side) : Type 0 where
  row : IsPaced strides t 0 0 (new_row e s t q side)
  ahead : IsAhead strides t 0 0 (pace (with_last (new_row e s t q side) side))

first_row : (strides : Strides) (e s t : ℕ) (q : RequestMessage) (side : Side) → side.next ≡ 0 → side.last_r ≡ None → side.last_l ≡ None → Reserves strides side.rates → FirstRow strides e s t q side
first_row strides e s t q side next r l reserves = record {
  row = record {
    number = λ w. omega arith;
    l = λ w. rw (next, l) (at_l t strides.limit);
    r = λ w looks. rw (next, r, reserves looks.phase) (at_r strides.reservation t looks.some);
  };
  ahead = record {
    number = omega arith;
    l = rw (next, l) (ahead_l t strides.limit);
    r = λ looks. rw (next, r, reserves looks.phase) (ahead_r strides.reservation t looks.some);
  };
}
  where
    at_l : (t i : ℕ) → pos (t + 0 * i) ≤ℤ pos t
    at_l t i = omega (arith, ints)

    ahead_l : (t i : ℕ) → pos (t + 1 * i) ≤ℤ (pos t +ℤ pos i)
    ahead_l t i = omega (arith, ints)

    at_r : (o : Option ℕ) (t : ℕ) → is_some o ≡ true → Reaches (option_map (λ i. later None i t) o) (0 * unwrap_or o 0) (t + 0 * unwrap_or o 0)
    at_r None t some = absurd (grind (arith, some))
    at_r (Some i) t some = omega (arith, ints)

    ahead_r : (o : Option ℕ) (t : ℕ) → is_some o ≡ true → Reaches (option_map (λ i. later None i t) o) (1 * unwrap_or o 0) (t + 1 * unwrap_or o 0)
    ahead_r None t some = absurd (grind (arith, some))
    ahead_r (Some i) t some = omega (arith, ints)

first_new : (strides : Strides) (e s t : ℕ) (q : RequestMessage) (table : Table) → e < length table.sides → Virgin strides e table → Paced strides e t 0 0 (entered_in e s t q table)
first_new strides e s t q table lt h =
    let row : Row = new_row e s t q (side table e) in
    let rows : rows_of e (put row table.rows) ≡ rows_of e table.rows ++ row ∷ [] = put_own (is_of e) row (λ x h. is_of_export e x h) (here e) table.rows in
    let late : side (entered_in e s t q table) e ≡ record (with_last row (side table e)) { count = (side table e).count + 1 } = get_or-change_at (λ side. record (with_last row side) { count = side.count + 1 }) e table.sides no_side lt in
    let new : FirstRow strides e s t q (side table e) = first_row strides e s t q (side table e) h.next h.r h.l h.reserves in
    record { reserves = rw (ap (λ (s : Side). s.rates) late) h.reserves; side = rw (ap pace late) new.ahead; rows = rw rows (subst (λ (xs : List Row). AllByRecursion (IsPaced strides t 0 0) (xs ++ row ∷ [])) (sym h.rows) (new.row, tt)) }
  where
    here : (e : ℕ) → eqb e e ≡ true
    here e = grind (arith, nat_tests)

virgin_filter : (e : ℕ) (p : Row → Bool) (rows : List Row) → rows_of e rows ≡ [] → rows_of e (filter p rows) ≡ []
virgin_filter e p rows h = filter_swap (is_of e) p rows ∙ ap (filter p) h

pub none_before : (t i b n : ℕ) → Within t i b n → b < t → n ≡ 0
none_before t i b zero h lt = refl
none_before t i b (suc j) h lt = absurd (far t (j * i) b (h j refl) lt)
  where
    far : (t m b : ℕ) → t + m ≤ b → b < t → ⊥
    far t m b h lt = omega (arith, h, lt)

pub at_most : (t i b n : ℕ) → Within t i b n → 0 < i → n ≤ 1 + (b - t) / i
at_most t i b zero h lt = omega arith
at_most t i b (suc j) h lt = one j ((b - t) / i) ((le-div_iff_mul-le {k = i} {x = j} {y = b - t} lt).1 (less t (j * i) b (h j refl)))
  where
    less : (t m b : ℕ) → t + m ≤ b → m ≤ b - t
    less t m b h = omega (arith, h)

    one : (j d : ℕ) → j ≤ d → suc j ≤ 1 + d
    one j d h = omega (arith, h)

-- a retune of another export leaves the reservation of e
reservation_kept : (strides : Strides) (e f : ℕ) (table : Table) (rates : Intervals) → (strides.phase ≡ Reservation → eqb f e ≡ false) → KeepsReservation strides e f table (with_rates rates)
reservation_kept strides e f table rates keeps counted same = absurd (differ (eqb f e) (keeps counted) here)
  where
    here : eqb f e ≡ true
    here = grind (arith, nat_tests, same)

    differ : (b : Bool) → b ≡ false → b ≡ true → ⊥
    differ b h k = grind (arith, h, k)

module _ {A : Type 0} where
  -- a step from a table where w choices by weight and r by reservation were made
  record Next (strides : Strides) (e t w r now : ℕ) (new : Outcome A) : Type 0 where
    weights : ℕ
    reservations : ℕ
    paced : Paced strides e t (weights + reservations) weights new.table
    counts : (phase : Phase) → by_phase weights reservations phase ≡ by_phase w r phase + one_if (is_choice_in e phase new.answer)
    due : is_choice_in e strides.phase new.answer ≡ true → t + by_phase w r strides.phase * interval_of strides ≤ now
    moment : new.table.now ≡ now

  -- a step that is no choice of e
  no_choice : (strides : Strides) (e t w r now : ℕ) (new : Outcome A) → Paced strides e t (w + r) w new.table → ((phase : Phase) → is_choice_in e phase new.answer ≡ false) → new.table.now ≡ now → Next strides e t w r now new
  no_choice strides e t w r now new h none at = record {
    weights = w;
    reservations = r;
    paced = h;
    counts = λ phase. rw (none phase) (plus (by_phase w r phase));
    due = λ so. absurd (differ (is_choice_in e strides.phase new.answer) (none strides.phase) so);
    moment = at;
  }
    where
      plus : (n : ℕ) → n ≡ n + 0
      plus n = omega arith

      differ : (b : Bool) → b ≡ false → b ≡ true → ⊥
      differ b h k = grind (arith, h, k)

  -- a choice of e, and one of another export
  next_own : (setup : Setup) (strides : Strides) (e t w r : ℕ) (table : Table) (chosen : Choice) → Tidy e table → Paced strides e t (w + r) w table → choice setup.inflight table ≡ Some chosen → e ≡ chosen.row.export →
      Next strides e t w r table.now (outcome (with_credit chosen (sent chosen.row table)) (said.Picked chosen.row.export chosen.row.number chosen.phase))
  next_own setup strides e t w r table chosen tidy paced chose same = go chosen.phase refl
    where
      is : IsChosen table chosen
      is = is_chosen setup.inflight table chosen chose

      m : Mem chosen.row (rows_of e table.rows)
      m = chosen_of e table chosen is same

      first : slice_get (filter (λ x. not x.out) (rows_of e table.rows)) 0 ≡ Some chosen.row
      first = subst (λ (xs : List Row). slice_get xs 0 ≡ Some chosen.row) (filter-and (is_of e) (λ x. not x.out) table.rows) (choice_first setup.inflight table chosen chose e same tidy.sorted)

      far : IsPaced strides t (w + r) w chosen.row
      far = mem_all (IsPaced strides t (w + r) w) chosen.row (rows_of e table.rows) paced.rows m

      kept : IsKept (latest (side table e)) chosen.row
      kept = mem_all (IsKept (latest (side table e))) chosen.row (rows_of e table.rows) tidy.kept m

      sent_paced : Paced strides e t (suc (w + r)) w (sent chosen.row table)
      sent_paced = paced_sent_own strides e t (w + r) w table chosen same tidy first (far.number (chosen_waits table chosen is)) kept.number paced

      long : e < length (sent chosen.row table).sides
      long = rw (length-change_at (λ side. record side { count = side.count + 1 }) chosen.row.export table.sides) tidy.there

      credited_paced : Paced strides e t (suc (w + r)) (credits_after chosen.phase w) (with_credit chosen (sent chosen.row table))
      credited_paced = paced_with_credit strides e t (suc (w + r)) w (sent chosen.row table) chosen same long sent_paced

      here : eqb chosen.row.export e ≡ true
      here = grind (arith, nat_tests, same)

      due_own : (eqb chosen.row.export e && is_phase chosen.phase strides.phase) ≡ true → t + by_phase w r strides.phase * interval_of strides ≤ table.now
      due_own so = chosen_due strides e t w r table chosen tidy paced is same (phases chosen.phase strides.phase (and_right (eqb chosen.row.export e) _ so))
        where
          phases : (a b : Phase) → is_phase a b ≡ true → a ≡ b
          phases Reservation Reservation h = refl
          phases Weight Weight h = refl
          phases Reservation Weight h = absurd (grind (arith, h))
          phases Weight Reservation h = absurd (grind (arith, h))

      credited_table : Table
      credited_table = with_credit chosen (sent chosen.row table)

      go : (phase : Phase) → chosen.phase ≡ phase → Next strides e t w r table.now (outcome (with_credit chosen (sent chosen.row table)) (said.Picked chosen.row.export chosen.row.number chosen.phase))
      go Reservation p = record {
        weights = w;
        reservations = suc r;
        paced = subst (λ (low : ℕ). Paced strides e t low w credited_table) (moved w r) (subst (λ (k : Phase). Paced strides e t (suc (w + r)) (credits_after k w) credited_table) p credited_paced);
        counts = λ phase. rw (here, p) (counts phase);
        due = due_own;
        moment = credit_now chosen (sent chosen.row table);
      }
        where
          moved : (w r : ℕ) → suc (w + r) ≡ w + suc r
          moved w r = omega arith

          counts : (phase : Phase) → by_phase w (suc r) phase ≡ by_phase w r phase + one_if (is_phase Reservation phase)
          counts Reservation = omega arith
          counts Weight = omega arith
      go Weight p = record {
        weights = suc w;
        reservations = r;
        paced = subst (λ (low : ℕ). Paced strides e t low (suc w) credited_table) (moved w r) (subst (λ (k : Phase). Paced strides e t (suc (w + r)) (credits_after k w) credited_table) p credited_paced);
        counts = λ phase. rw (here, p) (counts phase);
        due = due_own;
        moment = credit_now chosen (sent chosen.row table);
      }
        where
          moved : (w r : ℕ) → suc (w + r) ≡ suc w + r
          moved w r = omega arith

          counts : (phase : Phase) → by_phase (suc w) r phase ≡ by_phase w r phase + one_if (is_phase Weight phase)
          counts Reservation = omega arith
          counts Weight = omega arith

  next_sent : (setup : Setup) (strides : Strides) (e t w r : ℕ) (table : Table) (chosen : Choice) → Tidy e table → Paced strides e t (w + r) w table → choice setup.inflight table ≡ Some chosen → (b : Bool) → eqb chosen.row.export e ≡ b →
      Next strides e t w r table.now (outcome (with_credit chosen (sent chosen.row table)) (said.Picked chosen.row.export chosen.row.number chosen.phase))
  next_sent setup strides e t w r table chosen tidy paced chose true h = next_own setup strides e t w r table chosen tidy paced chose same
    where
      same : e ≡ chosen.row.export
      same = grind (arith, nat_tests, h)
  next_sent setup strides e t w r table chosen tidy paced chose false h =
      no_choice strides e t w r table.now _ (paced_with_credit_other strides e t (w + r) w (sent chosen.row table) chosen differ (paced_sent_other strides e t (w + r) w table chosen differ paced))
      (λ phase. rw h refl) (credit_now chosen (sent chosen.row table))
    where
      differ : e ≡ chosen.row.export → ⊥
      differ k = grind (arith, nat_tests, h, k)

  next_arrival : (strides : Strides) (e f s u t w r now : ℕ) (q : RequestMessage) (table : Table) → Tidy e table → Paced strides e t (w + r) w table → table.now ≡ now → (e ≡ f → strides.limit ≤ (side table e).rates.l_interval) → (b : Bool) → eqb e f ≡ b → Next strides e t w r now (accepted_in f s u q table)
  next_arrival strides e f s u t w r now q table tidy paced at le true is =
      subst (λ (x : ℕ). Next strides e t w r now (accepted_in x s u q table)) same
      (no_choice strides e t w r now (accepted_in e s u q table) (runs_accepted {A = A} strides e t (w + r) w s u q table tidy.there (le same) paced).paced (λ phase. refl) at)
    where
      same : e ≡ f
      same = grind (arith, nat_tests, is)
  next_arrival strides e f s u t w r now q table tidy paced at le false is =
      no_choice strides e t w r now (accepted_in f s u q table) (runs_accepted_other {A = A} strides e t (w + r) w f s u q table (λ x. differ x) paced).paced (λ phase. refl) at
    where
      differ : e ≡ f → ⊥
      differ x = grind (arith, nat_tests, is, x)

  no_choice_side : (strides : Strides) (e t w r f : ℕ) (table : Table) (change : Side → Side) (answer : Answer A) → IsUnseen f table change → KeepsReservation strides e f table change → Paced strides e t (w + r) w table → ((phase : Phase) → is_choice_in e phase answer ≡ false) → Next strides e t w r table.now (outcome (changed f table table.rows change) answer)
  no_choice_side strides e t w r f table change answer unseen keeps paced none = no_choice strides e t w r table.now (outcome (changed f table table.rows change) answer) (runs_side strides e t (w + r) w f table change answer unseen keeps paced).paced none refl

  no_choice_sessions : (strides : Strides) (e t w r f : ℕ) (table : Table) (sessions : List Session) (answer : Answer A) → Paced strides e t (w + r) w table → ((phase : Phase) → is_choice_in e phase answer ≡ false) → Next strides e t w r table.now (outcome (seated f sessions table) answer)
  no_choice_sessions strides e t w r f table sessions answer paced none = no_choice_side strides e t w r f table (with_sessions sessions) answer (sessions_unseen f table sessions) (λ counted same. (refl, refl)) paced none

  -- where the event is an accepted arrival of e, the interval in force of the limit is at least m
  abbrev pub LimitHere : ℕ → ℕ → Table → Event A → Answer A → Type 0
  LimitHere m e table event said = (u : ℕ) → accepted_at e event said ≡ Some u → m ≤ (side table e).rates.l_interval

  -- no event of a list is a retune of export e
  abbrev pub AreKept : ℕ → List (Event A) → Type 0
  AreKept e events = AllByRecursion (λ event. is_retune_of e event ≡ false) events

  -- every step
  next_step : (setup : Setup) (strides : Strides) (table : Table) (e t w r : ℕ) (event : Event A) (memory : Bool) → Tidy e table → Paced strides e t (w + r) w table → LimitHere strides.limit e table event (step setup table event memory).answer → (strides.phase ≡ Reservation → is_retune_of e event ≡ false) → Next strides e t w r (now_after table.now event) (step setup table event memory)
  next_step setup strides table e t w r (Attach named) memory tidy paced limit keeps =
      let P = Next strides e t w r table.now in
      some_one P (slice_get setup.exports named) (λ other h.
      if_one P (nat_le (2 ^ 56) (side table named).count) (no_choice strides e t w r table.now _ paced (λ phase. refl) refl)
      (if_one P (length (filter is_here (side table named).sessions) == 64) (no_choice strides e t w r table.now _ paced (λ phase. refl) refl)
      (if_one P (not memory) (no_choice strides e t w r table.now _ paced (λ phase. refl) refl)
      (no_choice_sessions strides e t w r named table _ _ paced (λ phase. refl))))) (no_choice strides e t w r table.now _ paced (λ phase. refl) refl)
  next_step setup strides table e t w r (Arrive named s u q) memory tidy paced limit keeps =
      some_one P (slice_get setup.exports named) (λ other h.
      if_one P (not (is_open_at (side table named).sessions s)) (λ holds. no_choice strides e t w r table.now _ paced (λ phase. refl) refl)
      (if_one P (nat_le (2 ^ 56) (side table named).count) (λ holds. no_choice strides e t w r table.now _ paced (λ phase. refl) refl)
      (if_one P (outstanding_in named s table == other.window) (λ holds. no_choice strides e t w r table.now _ paced (λ phase. refl) refl)
      (if_one P (not memory) (λ holds. no_choice strides e t w r table.now _ paced (λ phase. refl) refl)
      (if_one P (not (verdict_of other q == 0)) (λ holds. no_choice_sessions strides e t w r named table _ _ paced (λ phase. refl))
      (if_one P (length (filter (waits_in named) table.rows) == other.depth) (λ holds. no_choice_sessions strides e t w r named table _ _ paced (λ phase. refl))
      (λ holds. next_arrival strides e named s u t w r table.now q (shifted named u table) (tidy_shifted e named u table tidy) (paced_shifted strides e t (w + r) w named u table paced) (shifted_now named u table)
      (λ same. subst (λ (rates : Intervals). strides.limit ≤ rates.l_interval) (sym rates) (holds u (accepted same))) (eqb e named) refl))))))) (λ holds. no_choice strides e t w r table.now _ paced (λ phase. refl) refl)
      limit
    where
      P : Outcome A → Type 0
      P new = LimitHere strides.limit e table (Arrive named s u q) new.answer → Next strides e t w r table.now new

      rates : (side (shifted named u table) e).rates ≡ (side table e).rates
      rates = ap (λ (a : Alone). a.rates) (part_shifted e named u table)

      accepted : e ≡ named → ◌≡◌ {A = Option ℕ} (if eqb named e && true then Some u else None) (Some u)
      accepted same = rw (here same) refl
        where
          here : e ≡ named → eqb named e ≡ true
          here same = grind (arith, nat_tests, same)
  next_step setup strides table e t w r (Dispatch u) memory tidy paced limit keeps =
      let now : Table = record table { now = max table.now u } in
      some_told (Next strides e t w r now.now) (choice setup.inflight now)
      (λ chosen is. next_sent setup strides e t w r now chosen (tidy_now e now.now table tidy) (paced_now strides e t (w + r) w now.now table paced) is (eqb chosen.row.export e) refl)
      (λ none. no_choice strides e t w r now.now _ (paced_now strides e t (w + r) w now.now table paced) (λ phase. refl) refl)
  next_step setup strides table e t w r (Perform named n) memory tidy paced limit keeps =
      let P = Next strides e t w r table.now in
      some_one P (find (is_out_row named n) table.rows) (λ row h.
      if_one P (not memory && may_want_memory row.request)
      (no_choice strides e t w r table.now _ (runs_undone {A = A} strides e t (w + r) w named table row paced).paced (λ phase. refl) refl)
      (no_choice strides e t w r table.now _ (runs_done {A = A} strides e t (w + r) w named table row paced).paced (λ phase. refl) refl)) (no_choice strides e t w r table.now _ paced (λ phase. refl) refl)
  next_step setup strides table e t w r (Take named s) memory tidy paced limit keeps =
      let P = Next strides e t w r table.now in
      some_one P (slice_get setup.exports named) (λ other h.
      if_one P (not (is_here_at (side table named).sessions s)) (no_choice strides e t w r table.now _ paced (λ phase. refl) refl)
      (some_one P (slice_get (outbox_at (side table named).sessions s) 0) (λ reply k. no_choice_sessions strides e t w r named table _ _ paced (λ phase. refl))
      (if_one P (is_left_at (side table named).sessions s && outstanding_in named s table == 0) (no_choice strides e t w r table.now _ paced (λ phase. refl) refl) (no_choice strides e t w r table.now _ paced (λ phase. refl) refl)))) (no_choice strides e t w r table.now _ paced (λ phase. refl) refl)
  next_step setup strides table e t w r (Leave named s) memory tidy paced limit keeps =
      let P = Next strides e t w r table.now in
      some_one P (slice_get setup.exports named) (λ other h.
      if_one P (not (is_open_at (side table named).sessions s)) (no_choice strides e t w r table.now _ paced (λ phase. refl) refl) (no_choice_sessions strides e t w r named table _ _ paced (λ phase. refl))) (no_choice strides e t w r table.now _ paced (λ phase. refl) refl)
  next_step setup strides table e t w r (Gone named s) memory tidy paced limit keeps =
      let P = Next strides e t w r table.now in
      some_one P (slice_get setup.exports named) (λ other h.
      if_one P (not (is_here_at (side table named).sessions s)) (no_choice strides e t w r table.now _ paced (λ phase. refl) refl) (no_choice_sessions strides e t w r named table _ _ paced (λ phase. refl))) (no_choice strides e t w r table.now _ paced (λ phase. refl) refl)
  next_step setup strides table e t w r (Retune named rates) memory tidy paced limit keeps =
      let P = Next strides e t w r table.now in
      some_one P (slice_get setup.exports named) (λ other h.
      if_one P (nat_le (2 ^ 56) (side table named).count) (no_choice strides e t w r table.now _ paced (λ phase. refl) refl)
      (if_told P (not (length (filter (waits_in named) table.rows) == 0)) (λ h. no_choice strides e t w r table.now _ paced (λ phase. refl) refl)
      (λ idle. if_one P (not memory) (no_choice strides e t w r table.now _ paced (λ phase. refl) refl)
      (no_choice_side strides e t w r named table (with_rates rates) _ (rates_unseen named table rates idle) (reservation_kept strides e named table rates keeps) paced (λ phase. refl))))) (no_choice strides e t w r table.now _ paced (λ phase. refl) refl)

  -- and so at each accepted arrival of a list of events
  abbrev pub LimitHolds : ℕ → ℕ → Setup → Table → List (Event A) → List Bool → Type 0
  LimitHolds m e setup table [] marks = Unit {0}
  LimitHolds m e setup table (event ∷ events) marks =
      LimitHere m e table event (step setup table event (get_or marks 0 true)).answer × LimitHolds m e setup (step setup table event (get_or marks 0 true)).table events (drop 1 marks)

  total : (setup : Setup) (strides : Strides) (e t b : ℕ) (events : List (Event A)) (table : Table) (marks : List Bool) (w r k : ℕ) → Tidy e table → Paced strides e t (w + r) w table → LimitHolds strides.limit e setup table events marks → (strides.phase ≡ Reservation → AreKept e events) → k ≤ by_phase w r strides.phase → Within t (interval_of strides) b k →
      Within t (interval_of strides) b (k + choices e strides.phase b table.now events (answers_of setup table events marks))
  total setup strides e t b [] table marks w r k tidy paced holds keeps le within = λ j is. within j (sym (plus k) ∙ is)
    where
      plus : (n : ℕ) → n + 0 ≡ n
      plus n = omega arith
  total setup strides e t b (event ∷ events) table marks w r k tidy paced holds keeps le within =
      go (step setup table event (get_or marks 0 true)) (next_step setup strides table e t w r event (get_or marks 0 true) tidy paced holds.0 (λ counted. (keeps counted).0))
      (λ w' r' k' paced' le' within'. total setup strides e t b events (step setup table event (get_or marks 0 true)).table (drop 1 marks) w' r' k' (tidy_step setup table e event (get_or marks 0 true) tidy) paced' holds.1 (λ counted. (keeps counted).1) le' within')
    where
      go : (new : Outcome A) → Next strides e t w r (now_after table.now event) new →
          ((w' r' k' : ℕ) → Paced strides e t (w' + r') w' new.table → k' ≤ by_phase w' r' strides.phase → Within t (interval_of strides) b k' → Within t (interval_of strides) b (k' + choices e strides.phase b new.table.now events (answers_of setup new.table events (drop 1 marks)))) →
          Within t (interval_of strides) b (k + (one_if (is_choice_in e strides.phase new.answer && nat_le (now_after table.now event) b) + choices e strides.phase b (now_after table.now event) events (answers_of setup new.table events (drop 1 marks))))
      go new next ih = step_on (is_choice_in e strides.phase new.answer) (nat_le (now_after table.now event) b) refl refl
        where
          rest : ℕ
          rest = choices e strides.phase b (now_after table.now event) events (answers_of setup new.table events (drop 1 marks))

          more : (k' : ℕ) → k' ≤ by_phase next.weights next.reservations strides.phase → Within t (interval_of strides) b k' → Within t (interval_of strides) b (k' + choices e strides.phase b (now_after table.now event) events (answers_of setup new.table events (drop 1 marks)))
          more k' le' within' = subst (λ (m : ℕ). Within t (interval_of strides) b (k' + choices e strides.phase b m events (answers_of setup new.table events (drop 1 marks)))) next.moment (ih next.weights next.reservations k' next.paced le' within')

          not_counted : (n m x : ℕ) (c : Bool) → k ≤ n → m ≡ n + one_if c → k ≤ m
          not_counted n m x true h e = omega (arith, h, e)
          not_counted n m x false h e = omega (arith, h, e)

          nothing_more : Within t (interval_of strides) b (k + choices e strides.phase b (now_after table.now event) events (answers_of setup new.table events (drop 1 marks))) → Within t (interval_of strides) b (k + (0 + choices e strides.phase b (now_after table.now event) events (answers_of setup new.table events (drop 1 marks))))
          nothing_more h = subst (λ (m : ℕ). Within t (interval_of strides) b (k + m)) (zero_plus (choices e strides.phase b (now_after table.now event) events (answers_of setup new.table events (drop 1 marks)))) h
            where
              zero_plus : (n : ℕ) → n ≡ 0 + n
              zero_plus n = omega arith

          step_on : (c d : Bool) → is_choice_in e strides.phase new.answer ≡ c → nat_le (now_after table.now event) b ≡ d → Within t (interval_of strides) b (k + (one_if (c && d) + choices e strides.phase b (now_after table.now event) events (answers_of setup new.table events (drop 1 marks))))
          step_on true true c d = λ j is. more (suc k) (reached (by_phase w r strides.phase) (by_phase next.weights next.reservations strides.phase) le (next.counts strides.phase)) within_more j (regroup k rest ∙ is)
            where
              reached : (n m : ℕ) → k ≤ n → m ≡ n + one_if (is_choice_in e strides.phase new.answer) → suc k ≤ m
              reached n m h e = omega (arith, h, e ∙ ap (λ (x : Bool). n + one_if x) c)

              regroup : (k rest : ℕ) → suc k + rest ≡ k + (1 + rest)
              regroup k rest = omega arith

              at_most : (n m : ℕ) → nat_le n m ≡ true → n ≤ m
              at_most n m h = grind (arith, nat_tests, h)

              fits : (n i : ℕ) → k ≤ n → t + n * i ≤ b → t + k * i ≤ b
              fits n i h l = omega (arith, l, mul-le-mul_right {m = k} {n = n} i h)

              within_more : Within t (interval_of strides) b (suc k)
              within_more j is = subst (λ (x : ℕ). t + x * interval_of strides ≤ b) (same k j is) (fits (by_phase w r strides.phase) (interval_of strides) le (trans (next.due c) (at_most (now_after table.now event) b d)))
                where
                  same : (k j : ℕ) → suc k ≡ suc j → k ≡ j
                  same k j is = omega (arith, is)

                  trans : {x y z : ℕ} → x ≤ y → y ≤ z → x ≤ z
                  trans h l = omega (arith, h, l)
          step_on true false c d = nothing_more (more k (not_counted (by_phase w r strides.phase) (by_phase next.weights next.reservations strides.phase) 0 (is_choice_in e strides.phase new.answer) le (next.counts strides.phase)) within)
          step_on false d' c d = nothing_more (more k (not_counted (by_phase w r strides.phase) (by_phase next.weights next.reservations strides.phase) 0 (is_choice_in e strides.phase new.answer) le (next.counts strides.phase)) within)

  -- a step from such a table: nothing of e yet, or its first accepted arrival
  record First (strides : Strides) (e : ℕ) (event : Event A) (now : ℕ) (new : Outcome A) : Type 0 where
    moment : new.table.now ≡ now
    none : (phase : Phase) → is_choice_in e phase new.answer ≡ false
    case : ((accepted_at e event new.answer ≡ None) × Virgin strides e new.table) ⊎ ((t : ℕ) × (accepted_at e event new.answer ≡ Some t) × Paced strides e t 0 0 new.table)

  quiet : (strides : Strides) (e : ℕ) (event : Event A) (now : ℕ) (new : Outcome A) → Virgin strides e new.table → accepted_at e event new.answer ≡ None → ((phase : Phase) → is_choice_in e phase new.answer ≡ false) → new.table.now ≡ now → First strides e event now new
  quiet strides e event now new h none unchosen at = record { moment = at; none = unchosen; case = inl (none, h) }

  quiet_side : (strides : Strides) (e : ℕ) (event : Event A) (f : ℕ) (table : Table) (change : Side → Side) (answer : Answer A) → IsUnseen f table change → KeepsReservation strides e f table change → Virgin strides e table → accepted_at e event answer ≡ None → ((phase : Phase) → is_choice_in e phase answer ≡ false) → First strides e event table.now (outcome (changed f table table.rows change) answer)
  quiet_side strides e event f table change answer unseen keeps h none unchosen = quiet strides e event table.now (outcome (changed f table table.rows change) answer) (virgin_side strides e f table change unseen keeps h) none unchosen refl

  quiet_sessions : (strides : Strides) (e : ℕ) (event : Event A) (f : ℕ) (table : Table) (sessions : List Session) (answer : Answer A) → Virgin strides e table → accepted_at e event answer ≡ None → ((phase : Phase) → is_choice_in e phase answer ≡ false) → First strides e event table.now (outcome (seated f sessions table) answer)
  quiet_sessions strides e event f table sessions answer h none unchosen = quiet_side strides e event f table (with_sessions sessions) answer (sessions_unseen f table sessions) (λ counted same. (refl, refl)) h none unchosen

  first_arrival : (strides : Strides) (e f s t now : ℕ) (q : RequestMessage) (table : Table) → e < length table.sides → Virgin strides e table → table.now ≡ now → (b : Bool) → eqb e f ≡ b → First strides e (Arrive f s t q) now (accepted_in f s t q table)
  first_arrival strides e f s t now q table lt virgin at true is = record {
    moment = at;
    none = λ phase. refl;
    case = inr (t, rw here refl, subst (λ (x : ℕ). Paced strides e t 0 0 (entered_in x s t q table)) same (first_new strides e s t q table lt virgin));
  }
    where
      same : e ≡ f
      same = grind (arith, nat_tests, is)

      here : eqb f e ≡ true
      here = grind (arith, nat_tests, is)
  first_arrival strides e f s t now q table lt virgin at false is =
      quiet strides e (Arrive f s t q) now (accepted_in f s t q table)
      (virgin_by strides e table (entered_in f s t q table) virgin (ap (λ (s : Side). s.rates) other) (ap pace other)
      (put_other (is_of e) row e (λ x h. is_of_export e x h) away table.rows ∙ virgin.rows))
      (rw away refl) (λ phase. refl) at
    where
      row : Row
      row = new_row f s t q (side table f)

      differ : e ≡ f → ⊥
      differ x = grind (arith, nat_tests, is, x)

      other : side (entered_in f s t q table) e ≡ side table e
      other = get_or-change_at_other (λ side. record (with_last row side) { count = side.count + 1 }) f e table.sides no_side (λ x. differ x)

      away : eqb f e ≡ false
      away = grind (arith, nat_tests, is)

  virgin_dispatch : (setup : Setup) (strides : Strides) (e u : ℕ) (table : Table) (chosen : Choice) → Virgin strides e table → choice setup.inflight table ≡ Some chosen → First strides e (Dispatch u) table.now (outcome (with_credit chosen (sent chosen.row table)) (said.Picked chosen.row.export chosen.row.number chosen.phase))
  virgin_dispatch setup strides e u table chosen h is =
      quiet strides e (Dispatch u) table.now (outcome (with_credit chosen (sent chosen.row table)) (said.Picked chosen.row.export chosen.row.number chosen.phase))
      (credit (sent chosen.row table) sent_virgin) refl (λ phase. rw away refl) (credit_now chosen (sent chosen.row table))
    where
      differ : e ≡ chosen.row.export → ⊥
      differ same = subst (λ (xs : List Row). Mem chosen.row xs) h.rows (chosen_of e table chosen (is_chosen setup.inflight table chosen is) same)

      away : eqb chosen.row.export e ≡ false
      away = grind (arith, nat_tests, differ)

      sent_virgin : Virgin strides e (sent chosen.row table)
      sent_virgin = virgin_by strides e table (sent chosen.row table) h (unseen-change_at (λ (s : Side). s.rates) (λ side. record side { count = side.count + 1 }) (λ x. refl) chosen.row.export e table.sides no_side) (unseen-change_at pace (λ side. record side { count = side.count + 1 }) (λ x. refl) chosen.row.export e table.sides no_side)
          (filter-map (is_of e) (send chosen.row) (λ x. refl) table.rows ∙ ap (map (send chosen.row)) h.rows)

      credit : (a : Table) → Virgin strides e a → Virgin strides e (with_credit chosen a)
      credit a v = if_one (Virgin strides e) (is_by_weight chosen.phase)
          (some_one (Virgin strides e) (side a chosen.row.export).rates.r_interval (λ by i.
          virgin_by strides e a (credited by chosen.row.export a) v (ap (λ (s : Side). s.rates) (other a by)) (ap pace (other a by)) (filter-map (is_of e) (lower_r by chosen.row.export) (λ x. refl) a.rows ∙ ap (map (lower_r by chosen.row.export)) v.rows)) v) v
        where
          other : (a : Table) (by : ℕ) → side (credited by chosen.row.export a) e ≡ side a e
          other a by = get_or-change_at_other (lower_last_r by) chosen.row.export e a.sides no_side differ

  first_step : (setup : Setup) (strides : Strides) (table : Table) (e : ℕ) (event : Event A) (memory : Bool) → e < length table.sides → Virgin strides e table → (strides.phase ≡ Reservation → is_retune_of e event ≡ false) → First strides e event (now_after table.now event) (step setup table event memory)
  first_step setup strides table e (Attach named) memory lt h keeps =
      let event : Event A = Attach named in
      let P = First strides e event table.now in
      some_one P (slice_get setup.exports named) (λ other k.
      if_one P (nat_le (2 ^ 56) (side table named).count) (quiet strides e event table.now _ h refl (λ phase. refl) refl)
      (if_one P (length (filter is_here (side table named).sessions) == 64) (quiet strides e event table.now _ h refl (λ phase. refl) refl)
      (if_one P (not memory) (quiet strides e event table.now _ h refl (λ phase. refl) refl)
      (quiet_sessions strides e event named table _ _ h refl (λ phase. refl))))) (quiet strides e event table.now _ h refl (λ phase. refl) refl)
  first_step setup strides table e (Arrive named s u q) memory lt h keeps =
      let event : Event A = Arrive named s u q in
      let P = First strides e event table.now in
      some_one P (slice_get setup.exports named) (λ other k.
      if_one P (not (is_open_at (side table named).sessions s)) (quiet strides e event table.now _ h (no_arrival s u q) (λ phase. refl) refl)
      (if_one P (nat_le (2 ^ 56) (side table named).count) (quiet strides e event table.now _ h (no_arrival s u q) (λ phase. refl) refl)
      (if_one P (outstanding_in named s table == other.window) (quiet strides e event table.now _ h (no_arrival s u q) (λ phase. refl) refl)
      (if_one P (not memory) (quiet strides e event table.now _ h (no_arrival s u q) (λ phase. refl) refl)
      (if_one P (not (verdict_of other q == 0)) (quiet_sessions strides e event named table _ _ h (no_arrival s u q) (λ phase. refl))
      (if_one P (length (filter (waits_in named) table.rows) == other.depth) (quiet_sessions strides e event named table _ _ h (no_arrival s u q) (λ phase. refl))
      (first_arrival strides e named s u table.now q (shifted named u table) (rw (length-shifted named u table) lt) (virgin_shifted strides e named u table h) (shifted_now named u table) (eqb e named) refl))))))) (quiet strides e event table.now _ h (no_arrival s u q) (λ phase. refl) refl)
    where
      neither : (b : Bool) (u : ℕ) → ◌≡◌ {A = Option ℕ} (if b && false then Some u else None) None
      neither true u = refl
      neither false u = refl

      no_arrival : (s u : ℕ) (q : RequestMessage) → ◌≡◌ {A = Option ℕ} (if eqb named e && false then Some u else None) None
      no_arrival s u q = neither (eqb named e) u
  first_step setup strides table e (Dispatch u) memory lt h keeps =
      let now : Table = record table { now = max table.now u } in
      let virgin : Virgin strides e now = record { next = h.next; r = h.r; l = h.l; reserves = h.reserves; rows = h.rows } in
      some_told (First strides e (Dispatch u) now.now) (choice setup.inflight now)
      (λ chosen is. virgin_dispatch setup strides e u now chosen virgin is)
      (λ none. quiet strides e (Dispatch u) now.now _ virgin refl (λ phase. refl) refl)
  first_step setup strides table e (Perform named n) memory lt h keeps =
      let event : Event A = Perform named n in
      let P = First strides e event table.now in
      some_one P (find (is_out_row named n) table.rows) (λ row k.
      if_one P (not memory && may_want_memory row.request)
      (quiet strides e event table.now (outcome (undone_in named row table) (said.Performed false)) (virgin_by strides e table (undone_in named row table) h (unseen-change_at (λ (s : Side). s.rates) (λ side. record (undone_side row side) { count = side.count + 1 }) (λ x. refl) named e table.sides no_side) (unseen-change_at pace (λ side. record (undone_side row side) { count = side.count + 1 }) (λ x. refl) named e table.sides no_side) (virgin_filter e (λ other. not (is_out_row named row.number other)) table.rows h.rows)) refl (λ phase. refl) refl)
      (quiet strides e event table.now (outcome (done_in named row table) (said.Performed true)) (virgin_by strides e table (done_in named row table) h (unseen-change_at (λ (s : Side). s.rates) (λ side. record (done_side row side) { count = side.count + 1 }) (λ x. refl) named e table.sides no_side) (unseen-change_at pace (λ side. record (done_side row side) { count = side.count + 1 }) (λ x. refl) named e table.sides no_side) (virgin_filter e (λ other. not (is_out_row named row.number other)) table.rows h.rows)) refl (λ phase. refl) refl))
      (quiet strides e event table.now _ h refl (λ phase. refl) refl)
  first_step setup strides table e (Take named s) memory lt h keeps =
      let event : Event A = Take named s in
      let P = First strides e event table.now in
      some_one P (slice_get setup.exports named) (λ other k.
      if_one P (not (is_here_at (side table named).sessions s)) (quiet strides e event table.now _ h refl (λ phase. refl) refl)
      (some_one P (slice_get (outbox_at (side table named).sessions s) 0) (λ reply i. quiet_sessions strides e event named table _ _ h refl (λ phase. refl))
      (if_one P (is_left_at (side table named).sessions s && outstanding_in named s table == 0) (quiet strides e event table.now _ h refl (λ phase. refl) refl) (quiet strides e event table.now _ h refl (λ phase. refl) refl)))) (quiet strides e event table.now _ h refl (λ phase. refl) refl)
  first_step setup strides table e (Leave named s) memory lt h keeps =
      let event : Event A = Leave named s in
      let P = First strides e event table.now in
      some_one P (slice_get setup.exports named) (λ other k.
      if_one P (not (is_open_at (side table named).sessions s)) (quiet strides e event table.now _ h refl (λ phase. refl) refl) (quiet_sessions strides e event named table _ _ h refl (λ phase. refl))) (quiet strides e event table.now _ h refl (λ phase. refl) refl)
  first_step setup strides table e (Gone named s) memory lt h keeps =
      let event : Event A = Gone named s in
      let P = First strides e event table.now in
      some_one P (slice_get setup.exports named) (λ other k.
      if_one P (not (is_here_at (side table named).sessions s)) (quiet strides e event table.now _ h refl (λ phase. refl) refl) (quiet_sessions strides e event named table _ _ h refl (λ phase. refl))) (quiet strides e event table.now _ h refl (λ phase. refl) refl)
  first_step setup strides table e (Retune named rates) memory lt h keeps =
      let event : Event A = Retune named rates in
      let P = First strides e event table.now in
      some_one P (slice_get setup.exports named) (λ other k.
      if_one P (nat_le (2 ^ 56) (side table named).count) (quiet strides e event table.now _ h refl (λ phase. refl) refl)
      (if_told P (not (length (filter (waits_in named) table.rows) == 0)) (λ _. quiet strides e event table.now _ h refl (λ phase. refl) refl)
      (λ idle. if_one P (not memory) (quiet strides e event table.now _ h refl (λ phase. refl) refl)
      (quiet_side strides e event named table (with_rates rates) _ (rates_unseen named table rates idle) (reservation_kept strides e named table rates keeps) h refl (λ phase. refl))))) (quiet strides e event table.now _ h refl (λ phase. refl) refl)

  -- ---- whole runs

  -- of a list of events from a table on before the first accepted arrival, behind that one
  abbrev pub LimitHoldsLater : ℕ → ℕ → Setup → Table → List (Event A) → List Bool → Type 0
  LimitHoldsLater m e setup table [] marks = Unit {0}
  LimitHoldsLater m e setup table (event ∷ events) marks =
      MatchOption (accepted_at e event (step setup table event (get_or marks 0 true)).answer)
      (LimitHoldsLater m e setup (step setup table event (get_or marks 0 true)).table events (drop 1 marks))
      (λ u. LimitHolds m e setup (step setup table event (get_or marks 0 true)).table events (drop 1 marks))

  pub counted : (setup : Setup) (strides : Strides) (e t b : ℕ) (events : List (Event A)) (table : Table) (marks : List Bool) → Tidy e table → Virgin strides e table → LimitHoldsLater strides.limit e setup table events marks → (strides.phase ≡ Reservation → AreKept e events) → first_accepted e events (answers_of setup table events marks) ≡ Some t →
      Within t (interval_of strides) b (choices e strides.phase b table.now events (answers_of setup table events marks))
  counted setup strides e t b [] table marks tidy virgin holds keeps first = absurd (none-some t first)
  counted setup strides e t b (event ∷ events) table marks tidy virgin holds keeps first =
      go (step setup table event (get_or marks 0 true)) (first_step setup strides table e event (get_or marks 0 true) tidy.there virgin (λ counts. (keeps counts).0))
      (tidy_step setup table e event (get_or marks 0 true) tidy) holds first
      (λ virgin' holds' first'. counted setup strides e t b events (step setup table event (get_or marks 0 true)).table (drop 1 marks) (tidy_step setup table e event (get_or marks 0 true) tidy) virgin' holds' (λ counts. (keeps counts).1) first')
    where
      go : (new : Outcome A) → First strides e event (now_after table.now event) new → Tidy e new.table →
          MatchOption (accepted_at e event new.answer) (LimitHoldsLater strides.limit e setup new.table events (drop 1 marks)) (λ u. LimitHolds strides.limit e setup new.table events (drop 1 marks)) →
          when_some (accepted_at e event new.answer) (λ t. Some t) (first_accepted e events (answers_of setup new.table events (drop 1 marks))) ≡ Some t →
          (Virgin strides e new.table → LimitHoldsLater strides.limit e setup new.table events (drop 1 marks) → first_accepted e events (answers_of setup new.table events (drop 1 marks)) ≡ Some t → Within t (interval_of strides) b (choices e strides.phase b new.table.now events (answers_of setup new.table events (drop 1 marks)))) →
          Within t (interval_of strides) b (one_if (is_choice_in e strides.phase new.answer && nat_le (now_after table.now event) b) + choices e strides.phase b (now_after table.now event) events (answers_of setup new.table events (drop 1 marks)))
      go new next tidy' holds first ih = rw (next.none strides.phase) (subst (λ (m : ℕ). Within t (interval_of strides) b m) (zero_plus (choices e strides.phase b (now_after table.now event) events (answers_of setup new.table events (drop 1 marks))))
          (subst (λ (m : ℕ). Within t (interval_of strides) b (choices e strides.phase b m events (answers_of setup new.table events (drop 1 marks)))) next.moment (rest next.case)))
        where
          zero_plus : (n : ℕ) → n ≡ 0 + n
          zero_plus n = omega arith

          rest : ((accepted_at e event new.answer ≡ None) × Virgin strides e new.table) ⊎ ((u : ℕ) × (accepted_at e event new.answer ≡ Some u) × Paced strides e u 0 0 new.table) → Within t (interval_of strides) b (choices e strides.phase b new.table.now events (answers_of setup new.table events (drop 1 marks)))
          rest (inl h) = ih h.1 (rw h.0 at holds) (rw h.0 at first)
          rest (inr h) =
              let same : h.0 ≡ t = same_Some h.0 t (rw h.1 at first) in
              let all : Within t (interval_of strides) b (0 + choices e strides.phase b new.table.now events (answers_of setup new.table events (drop 1 marks))) = total setup strides e t b events new.table (drop 1 marks) 0 0 0 tidy' (subst (λ (u : ℕ). Paced strides e u 0 0 new.table) same h.2) (rw h.1 at holds) (λ counts. (keeps counts).1) (none_yet strides.phase) (λ j is. absurd (omega (arith, is))) in
              subst (λ (m : ℕ). Within t (interval_of strides) b m) (sym (zero_plus (choices e strides.phase b new.table.now events (answers_of setup new.table events (drop 1 marks))))) all
            where
              none_yet : (phase : Phase) → 0 ≤ by_phase 0 0 phase
              none_yet Reservation = omega arith
              none_yet Weight = omega arith
