-- A dispatch is a pick of the export that it chose, and every step keeps the order of the rows.
use Rattle.std.proofs.Common.{◌≡◌, ◌≢◌, ◌⊎◌, ℕ, ◌<◌, ◌^◌, max, Bool, true, false, not, ◌&&◌, ◌||◌, eqb, nat_le, ◌==◌, List, [], ◌∷◌, ◌++◌, length, map, filter, find, drop, slice_get, Option, Some, None, unwrap_or, if◌then◌else◌, MatchOption, ℤ, pos, ◌≤ℤ◌, int_le, refl, sym, subst, ap, ◌∙◌, arith, inl, inr}
use Rattle.std.proofs.lemmas.Int.{ints}
use Rattle.std.proofs.lemmas.Bool.Decides.{nat_tests}
use Rattle.std.proofs.lemmas.Option.{same_Some, none-some, slice_get-map}
use Rattle.nbd_wire.specs.Grammar.{RequestMessage}
use Rattle.tag_clock.specs.declared.Phase.TheVariants.{Reservation, Weight}
use Rattle.server_table.specs.declared.event.Event.{Event}
use Rattle.server_table.specs.declared.event.Event.TheVariants.{Attach, Arrive, Dispatch, Perform, Take, Leave, Gone, Retune}
use Rattle.lone_export.specs.declared.step.Step.{Step}
use Rattle.lone_export.specs.declared.step.Step.TheVariants as own
use Rattle.lone_export.specs.declared.step.StepAnswer.{StepAnswer}
use Rattle.lone_export.specs.declared.step.StepAnswer.TheVariants as alone
use Rattle.nbd_base.specs.Words.{when_some}
use Rattle.nbd_commands.specs.Terms.{Terms}
use Rattle.nbd_commands.specs.Verdict.{verdict_of}
use Rattle.nbd_commands.specs.Meaning.{may_want_memory}
use Rattle.reply_box.specs.Sessions.{is_here, is_open_at, is_left_at, is_here_at, outbox_at}
use Rattle.lone_export.specs.Alone.{own_step}
use Rattle.server_table.specs.Table.{Row, Table, Setup, Choice, side, waits_in, is_out_in, job_of, part, is_due_by_reservation, is_due_by_limit, due_by_reservation, due_by_limit, foremost, r_key, p_key, choice, shifted}
use Rattle.server_table.specs.Steps.{changed, with_sessions, with_rates, is_out_row, outstanding_in, accepted_in, send, sent, is_by_weight, with_credit, step}
use Rattle.server_table.specs.Order.{TagBefore}
use Rattle.lone_export.proofs.Cases.{if_one, if_told, some_one, some_told}
use Rattle.core_laws.proofs.Lists.{filter-map}
use Rattle.core_laws.proofs.Parts.{part_other, part_own, part_credited}
use Rattle.core_laws.proofs.Named.{Agrees}
use Rattle.core_laws.proofs.Tidy.{Sorted, is_of, rows_of, is_of_all, map_same_on, filter-and, Lowers, chosen_first, sent_waiting, sent_out, Tidy}
use Rattle.core_laws.proofs.Kept.{Keeps, keeps_all, keeps_side, sessions_unseen, rates_unseen, keeps_done, keeps_undone, tidy_shifted, keeps_accepted, keeps_accepted_other, keeps_sent, tidy_credited}

-- ---- which row is chosen

abbrev pub IsChosen : Table → Choice → Type 0
IsChosen table chosen = ((foremost r_key (due_by_reservation table) ≡ Some chosen.row) × (chosen.phase ≡ Reservation)) ⊎ ((foremost p_key (due_by_limit table) ≡ Some chosen.row) × (chosen.phase ≡ Weight))

pub is_chosen : (inflight : ℕ) (table : Table) (chosen : Choice) → choice inflight table ≡ Some chosen → IsChosen table chosen
is_chosen inflight table chosen is =
    if_one P (nat_le inflight (length (filter (λ row. row.out) table.rows))) (λ h. absurd (none-some chosen h))
    (some_told P (foremost r_key (due_by_reservation table))
    (λ row h e. let k : record { row = row; phase = Reservation } ≡ chosen = same_Some (record { row = row; phase = Reservation }) chosen e in inl (h ∙ ap (λ (c : Choice). Some c.row) k, sym (ap (λ (c : Choice). c.phase) k)))
    (λ none. some_told P (foremost p_key (due_by_limit table))
    (λ row h e. let k : record { row = row; phase = Weight } ≡ chosen = same_Some (record { row = row; phase = Weight }) chosen e in inr (h ∙ ap (λ (c : Choice). Some c.row) k, sym (ap (λ (c : Choice). c.phase) k)))
    (λ none e. absurd (none-some chosen e))))
    is
  where
    P : Option Choice → Type 0
    P o = o ≡ Some chosen → IsChosen table chosen

due_r_at : (a b : Option ℤ) (now : ℕ) → TagBefore a b → when_some b (λ r. int_le r (pos now)) false ≡ true → (when_some a (λ r. int_le r (pos now)) false ≡ true) × (unwrap_or a (pos 0) ≤ℤ unwrap_or b (pos 0))
due_r_at None None now h d = absurd (grind (arith, d))
due_r_at None (Some b) now h d = absurd h
due_r_at (Some a) None now h d = absurd h
due_r_at (Some a) (Some b) now h d = (under a b now h d, h)
  where
    under : (a b : ℤ) (now : ℕ) → a ≤ℤ b → int_le b (pos now) ≡ true → int_le a (pos now) ≡ true
    under a b now h d = grind (arith, ints, h, d)

pub and_left : (a b : Bool) → (a && b) ≡ true → a ≡ true
and_left true b h = refl
and_left false b h = h

pub and_right : (a b : Bool) → (a && b) ≡ true → b ≡ true
and_right true b h = h
and_right false b h = absurd (grind (arith, h))

pub not_true : (a : Bool) → not a ≡ true → a ≡ false
not_true true h = absurd (grind (arith, h))
not_true false h = refl

pub lowers_r : (now : ℕ) → Lowers r_key (is_due_by_reservation now)
lowers_r now = record {
  waits = λ x h. not_true x.out (and_left (not x.out) _ h);
  lower = λ a b w before due. let k : (when_some a.r (λ r. int_le r (pos now)) false ≡ true) × (unwrap_or a.r (pos 0) ≤ℤ unwrap_or b.r (pos 0)) = due_r_at a.r b.r now (before.r w) (and_right (not b.out) _ due) in (both (not a.out) _ (rw w refl) k.0, k.1);
}
  where
    both : (a b : Bool) → a ≡ true → b ≡ true → (a && b) ≡ true
    both a b h k = rw (h, k) refl

pub lowers_p : (now : ℕ) → Lowers p_key (is_due_by_limit now)
lowers_p now = record {
  waits = λ x h. not_true x.out (and_left (not x.out) _ h);
  lower = λ a b w before due. (both (not a.out) _ (rw w refl) (under a.l b.l now (before.l w) (and_right (not b.out) _ due)), before.p w);
}
  where
    both : (a b : Bool) → a ≡ true → b ≡ true → (a && b) ≡ true
    both a b h k = rw (h, k) refl

    under : (a b : ℤ) (now : ℕ) → a ≤ℤ b → int_le b (pos now) ≡ true → int_le a (pos now) ≡ true
    under a b now h d = grind (arith, ints, h, d)

-- it is the first of its export that waits
pub choice_first : (inflight : ℕ) (table : Table) (chosen : Choice) → choice inflight table ≡ Some chosen → (e : ℕ) → e ≡ chosen.row.export → Sorted (rows_of e table.rows) → slice_get (filter (waits_in e) table.rows) 0 ≡ Some chosen.row
choice_first inflight table chosen is e same sorted = subst (λ (k : ℕ). slice_get (filter (waits_in k) table.rows) 0 ≡ Some chosen.row) (sym same) (go (is_chosen inflight table chosen is) (subst (λ (k : ℕ). Sorted (rows_of k table.rows)) same sorted))
  where
    go : IsChosen table chosen → Sorted (rows_of chosen.row.export table.rows) → slice_get (filter (waits_in chosen.row.export) table.rows) 0 ≡ Some chosen.row
    go (inl h) s = chosen_first r_key (is_due_by_reservation table.now) (lowers_r table.now) table.rows chosen.row h.0 s
    go (inr h) s = chosen_first p_key (is_due_by_limit table.now) (lowers_p table.now) table.rows chosen.row h.0 s

-- ---- a dispatch, and the part of each export

pub part_with_credit : (chosen : Choice) (e : ℕ) (table : Table) → part e (with_credit chosen table) ≡ part e table
part_with_credit chosen e table =
    if_one P (is_by_weight chosen.phase)
    (some_one P (side table chosen.row.export).rates.r_interval (λ by k. part_credited e by chosen.row.export table) refl)
    refl
  where
    P : Table → Type 0
    P a = part e a ≡ part e table

pub sent_other : (e : ℕ) (table : Table) (chosen : Choice) → e ≢ chosen.row.export → part e (sent chosen.row table) ≡ part e table
sent_other e table chosen differ =
    let rows : rows_of e (map (send chosen.row) table.rows) ≡ rows_of e table.rows = filter-map (is_of e) (send chosen.row) (λ x. refl) table.rows ∙ map_same_on (send chosen.row) (λ x. x.export ≡ e) (λ x h. same x h) (rows_of e table.rows) (is_of_all e table.rows) in
    part_other e chosen.row.export table (map (send chosen.row) table.rows) (λ side. side) differ
    (filter-and (is_of e) (λ x. not x.out) (map (send chosen.row) table.rows) ∙ ap (filter (λ x. not x.out)) rows ∙ sym (filter-and (is_of e) (λ x. not x.out) table.rows))
    (filter-and (is_of e) (λ x. x.out) (map (send chosen.row) table.rows) ∙ ap (filter (λ x. x.out)) rows ∙ sym (filter-and (is_of e) (λ x. x.out) table.rows))
  where
    same : (x : Row) → x.export ≡ e → send chosen.row x ≡ x
    same x h = ap (λ o. record x { out = o }) (stays x.out (away x h))
      where
        away : (x : Row) → x.export ≡ e → (x.export == chosen.row.export) ≡ false
        away x h = grind (arith, nat_tests, h, differ)

        stays : (b : Bool) → (x.export == chosen.row.export) ≡ false → (b || (x.export == chosen.row.export && x.number == chosen.row.number)) ≡ b
        stays true a = refl
        stays false a = rw a refl

-- sending the first that waits is a pick
pub sent_own : (A : Type 0) (terms : Terms) (e : ℕ) (table : Table) (chosen : Choice) → e ≡ chosen.row.export → e < length table.sides → Sorted (rows_of e table.rows) → slice_get (filter (waits_in e) table.rows) 0 ≡ Some chosen.row → part e (sent chosen.row table) ≡ (own_step {A = A} terms (part e table) own.Pick).state
sent_own A terms e table chosen same lt sorted first =
    subst (λ (k : ℕ). part e (changed k table rows (λ side. side)) ≡ (own_step {A = A} terms (part e table) own.Pick).state) same
    (part_own e table rows (λ side. side) lt
    ∙ rw (slice_get-map job_of (filter (waits_in e) table.rows) 0, first, waiting, out) refl)
  where
    rows : List Row
    rows = map (send chosen.row) table.rows

    of_e : rows_of e rows ≡ map (send chosen.row) (rows_of e table.rows)
    of_e = filter-map (is_of e) (send chosen.row) (λ x. refl) table.rows

    first_of_e : slice_get (filter (λ x. not x.out) (rows_of e table.rows)) 0 ≡ Some chosen.row
    first_of_e = subst (λ (xs : List Row). slice_get xs 0 ≡ Some chosen.row) (filter-and (is_of e) (λ x. not x.out) table.rows) first

    waiting : map job_of (filter (waits_in e) rows) ≡ drop 1 (map job_of (filter (waits_in e) table.rows))
    waiting = ap (map job_of) (filter-and (is_of e) (λ x. not x.out) rows ∙ ap (filter (λ x. not x.out)) of_e) ∙ sent_waiting chosen.row (rows_of e table.rows) sorted first_of_e ∙ ap (λ (xs : List Row). drop 1 (map job_of xs)) (sym (filter-and (is_of e) (λ x. not x.out) table.rows))

    out : map job_of (filter (is_out_in e) rows) ≡ map job_of (filter (is_out_in e) table.rows) ++ job_of chosen.row ∷ []
    out = ap (map job_of) (filter-and (is_of e) (λ x. x.out) rows ∙ ap (filter (λ x. x.out)) of_e) ∙ sent_out chosen.row (rows_of e table.rows) sorted first_of_e ∙ ap (λ (xs : List Row). map job_of xs ++ job_of chosen.row ∷ []) (sym (filter-and (is_of e) (λ x. x.out) table.rows))

pub tidy_now : (e n : ℕ) (table : Table) → Tidy e table → Tidy e (record table { now = n })
tidy_now e n table tidy = record { there = tidy.there; sorted = tidy.sorted; kept = tidy.kept }

-- ---- every step keeps the order of the rows

tidy_with_credit : (chosen : Choice) (e : ℕ) (table : Table) → Tidy e table → Tidy e (with_credit chosen table)
tidy_with_credit chosen e table tidy =
    if_one (Tidy e) (is_by_weight chosen.phase)
    (some_one (Tidy e) (side table chosen.row.export).rates.r_interval (λ by k. tidy_credited e by chosen.row.export table tidy) tidy)
    tidy

module _ {A : Type 0} where
  abbrev pick_if : Bool → Option (Step A)
  pick_if b = if b then Some own.Pick else None

  pick_answer : (terms : Terms) (e : ℕ) (table : Table) (c : Row) → slice_get (filter (waits_in e) table.rows) 0 ≡ Some c → (own_step {A = A} terms (part e table) own.Pick).answer ≡ alone.Picked c.number
  pick_answer terms e table c first = rw (slice_get-map job_of (filter (waits_in e) table.rows) 0, first) refl

-- what a dispatch does to the part of e
agrees_sent : (A : Type 0) (terms : Terms) (e t : ℕ) (table : Table) (chosen : Choice) → Tidy e table → (e ≡ chosen.row.export → slice_get (filter (waits_in e) table.rows) 0 ≡ Some chosen.row) → (b : Bool) → eqb chosen.row.export e ≡ b →
    MatchOption (pick_if {A = A} b) (part e (with_credit chosen (sent chosen.row table)) ≡ part e table)
    (λ one. (part e (with_credit chosen (sent chosen.row table)) ≡ (own_step terms (part e table) one).state) × (◌≡◌ {A = Option (StepAnswer A)} (Some (alone.Picked chosen.row.number)) (Some (own_step terms (part e table) one).answer)))
agrees_sent A terms e t table chosen tidy first true h =
    (part_with_credit chosen e (sent chosen.row table) ∙ sent_own A terms e table chosen same tidy.there tidy.sorted (first same), ap Some (sym (pick_answer terms e table chosen.row (first same))))
  where
    same : e ≡ chosen.row.export
    same = grind (arith, nat_tests, h)
agrees_sent A terms e t table chosen tidy first false h =
    part_with_credit chosen e (sent chosen.row table) ∙ sent_other e table chosen (λ k. differ k)
  where
    differ : e ≡ chosen.row.export → ⊥
    differ k = grind (arith, nat_tests, h, k)

pub agrees_dispatch : (A : Type 0) (setup : Setup) (terms : Terms) (table : Table) (e t : ℕ) (memory : Bool) → Tidy e table → Agrees terms e table (Dispatch t) (step {A = A} setup table (Dispatch t) memory)
agrees_dispatch A setup terms table e t memory tidy =
    let now : Table = record table { now = max table.now t } in
    some_told (Agrees terms e table (Dispatch t)) (choice setup.inflight now)
    (λ chosen is. agrees_sent A terms e t now chosen (tidy_now e (max table.now t) table tidy) (λ same. choice_first setup.inflight now chosen is e same tidy.sorted) (eqb chosen.row.export e) refl)
    (λ none. refl)

module _ {A : Type 0} where
  keeps_arrival : (e f s t : ℕ) (q : RequestMessage) (table : Table) → Tidy e table → (b : Bool) → eqb e f ≡ b → Keeps {A = A} e (accepted_in f s t q table)
  keeps_arrival e f s t q table tidy true is = subst (λ (x : ℕ). Keeps {A = A} e (accepted_in x s t q table)) (equal is) (keeps_accepted e s t q table tidy)
    where
      equal : eqb e f ≡ true → e ≡ f
      equal h = grind (arith, nat_tests, h)
  keeps_arrival e f s t q table tidy false is = keeps_accepted_other e f s t q table (λ x. differ x) tidy
    where
      differ : e ≡ f → ⊥
      differ x = grind (arith, nat_tests, is, x)

  keeps_step : (setup : Setup) (table : Table) (e : ℕ) (event : Event A) (memory : Bool) → Tidy e table → Keeps e (step setup table event memory)
  keeps_step setup table e (Attach named) memory tidy =
      let P = Keeps e in
      some_one P (slice_get setup.exports named) (λ other h.
      if_one P (nat_le (2 ^ 56) (side table named).count) (keeps_all e table _ tidy)
      (if_one P (length (filter is_here (side table named).sessions) == 64) (keeps_all e table _ tidy)
      (if_one P (not memory) (keeps_all e table _ tidy)
      (keeps_side e named table (with_sessions _) _ (sessions_unseen named table _) tidy)))) (keeps_all e table _ tidy)
  keeps_step setup table e (Arrive named s t q) memory tidy =
      let P = Keeps e in
      some_one P (slice_get setup.exports named) (λ other h.
      if_one P (not (is_open_at (side table named).sessions s)) (keeps_all e table _ tidy)
      (if_one P (nat_le (2 ^ 56) (side table named).count) (keeps_all e table _ tidy)
      (if_one P (outstanding_in named s table == other.window) (keeps_all e table _ tidy)
      (if_one P (not memory) (keeps_all e table _ tidy)
      (if_one P (not (verdict_of other q == 0)) (keeps_side e named table (with_sessions _) _ (sessions_unseen named table _) tidy)
      (if_one P (length (filter (waits_in named) table.rows) == other.depth) (keeps_side e named table (with_sessions _) _ (sessions_unseen named table _) tidy)
      (keeps_arrival e named s t q (shifted named t table) (tidy_shifted e named t table tidy) (eqb e named) refl))))))) (keeps_all e table _ tidy)
  keeps_step setup table e (Dispatch t) memory tidy =
      let now : Table = record table { now = max table.now t } in
      let tidy_at : Tidy e now = tidy_now e (max table.now t) table tidy in
      some_told (Keeps e) (choice setup.inflight now)
      (λ chosen is. record { tidy = tidy_with_credit chosen e (sent chosen.row now) (keeps_sent e now chosen (λ same. subst (λ (xs : List Row). slice_get xs 0 ≡ Some chosen.row) (filter-and (is_of e) (λ x. not x.out) table.rows) (choice_first setup.inflight now chosen is e same tidy.sorted)) tidy_at) })
      (λ none. keeps_all e now _ tidy_at)
  keeps_step setup table e (Perform named n) memory tidy =
      let P = Keeps e in
      some_one P (find (is_out_row named n) table.rows) (λ row h.
      if_one P (not memory && may_want_memory row.request) (keeps_undone e named table row tidy) (keeps_done e named table row tidy)) (keeps_all e table _ tidy)
  keeps_step setup table e (Take named s) memory tidy =
      let P = Keeps e in
      some_one P (slice_get setup.exports named) (λ other h.
      if_one P (not (is_here_at (side table named).sessions s)) (keeps_all e table _ tidy)
      (some_one P (slice_get (outbox_at (side table named).sessions s) 0) (λ reply k. keeps_side e named table (with_sessions _) _ (sessions_unseen named table _) tidy)
      (if_one P (is_left_at (side table named).sessions s && outstanding_in named s table == 0) (keeps_all e table _ tidy) (keeps_all e table _ tidy)))) (keeps_all e table _ tidy)
  keeps_step setup table e (Leave named s) memory tidy =
      let P = Keeps e in
      some_one P (slice_get setup.exports named) (λ other h.
      if_one P (not (is_open_at (side table named).sessions s)) (keeps_all e table _ tidy) (keeps_side e named table (with_sessions _) _ (sessions_unseen named table _) tidy)) (keeps_all e table _ tidy)
  keeps_step setup table e (Gone named s) memory tidy =
      let P = Keeps e in
      some_one P (slice_get setup.exports named) (λ other h.
      if_one P (not (is_here_at (side table named).sessions s)) (keeps_all e table _ tidy) (keeps_side e named table (with_sessions _) _ (sessions_unseen named table _) tidy)) (keeps_all e table _ tidy)
  keeps_step setup table e (Retune named rates) memory tidy =
      let P = Keeps e in
      some_one P (slice_get setup.exports named) (λ other h.
      if_one P (nat_le (2 ^ 56) (side table named).count) (keeps_all e table _ tidy)
      (if_told P (not (length (filter (waits_in named) table.rows) == 0)) (λ h. keeps_all e table _ tidy)
      (λ idle. if_one P (not memory) (keeps_all e table _ tidy) (keeps_side e named table (with_rates rates) _ (rates_unseen named table rates idle) tidy)))) (keeps_all e table _ tidy)

  pub tidy_step : (setup : Setup) (table : Table) (e : ℕ) (event : Event A) (memory : Bool) → Tidy e table → Tidy e (step setup table event memory).table
  tidy_step setup table e event memory tidy = (keeps_step setup table e event memory tidy).tidy
