-- The requests of an export that wait, with their P tags, and what each step does to them.
use Rattle.std.proofs.Common.{◌≡◌, ◌≢◌, ℕ, suc, ◌+◌, ◌<◌, ◌^◌, max, Bool, true, false, not, ◌&&◌, ◌||◌, eqb, nat_le, ◌==◌, List, [], ◌∷◌, ◌++◌, length, map, filter, find, drop, slice_get, Option, Some, None, if◌then◌else◌, ℤ, pos, ◌-ℤ◌, refl, sym, subst, ap, ◌∙◌, arith}
use Rattle.std.specs.List.{AllByRecursion}
use Rattle.std.proofs.lemmas.Int.{ints}
use Rattle.std.proofs.lemmas.Bool.Decides.{nat_tests}
use Rattle.std.proofs.lemmas.Option.{same_Some}
use Rattle.nbd_wire.specs.Grammar.{RequestMessage}
use Rattle.nbd_base.specs.Words.{when_some}
use Rattle.nbd_commands.specs.Verdict.{verdict_of}
use Rattle.nbd_commands.specs.Meaning.{may_want_memory}
use Rattle.tag_clock.specs.declared.Phase.{Phase}
use Rattle.tag_clock.specs.Intervals.{Intervals}
use Rattle.tag_clock.specs.Tags.{later}
use Rattle.tag_clock.specs.Clocks.{lowered}
use Rattle.reply_box.specs.Sessions.{is_here, is_open_at, is_left_at, is_here_at, outbox_at}
use Rattle.lone_export.specs.Alone.{Alone}
use Rattle.server_table.specs.declared.event.Event.{Event}
use Rattle.server_table.specs.declared.event.Event.TheVariants.{Attach, Arrive, Dispatch, Perform, Take, Leave, Gone, Retune}
use Rattle.server_table.specs.declared.event.Answer.{Answer}
use Rattle.server_table.specs.declared.event.Answer.TheVariants as said
use Rattle.server_table.specs.Table.{Row, Side, Table, Setup, Choice, side, no_side, waits_in, is_idle, foremost, p_key, lower_p, lower_last_p, all_lowered, shifted, lower_r, lower_last_r, credited, put, choice}
use Rattle.server_table.specs.Steps.{Outcome, outcome, step, changed, with_sessions, with_rates, is_out_row, outstanding_in, new_row, with_last, accepted_in, done_side, undone_side, done_in, undone_in, send, sent, is_by_weight, with_credit, entered_in}
use Rattle.server_table.specs.Shares.{is_choice_of}
use Rattle.core_laws.specs.Counts.{is_choice_in, is_accepted}
use Rattle.core_laws.specs.Shares.{shift_at, fall}
use Rattle.lone_export.proofs.Cases.{true_false, if_one, if_told, if_both, some_one, some_told}
use Rattle.core_laws.proofs.Lists.{filter-map, map-map_same, all_pass, get_or-change_at, get_or-change_at_other, get_or-change_each, unseen-change_at, unseen_there}
use Rattle.core_laws.proofs.Parts.{put_own, put_other, waits_here, waits_kept, part_shifted, length-shifted}
use Rattle.core_laws.proofs.Tidy.{Sorted, is_of, rows_of, is_of_all, map_same_on, filter-and, is_sent, rest_same, Tidy}
use Rattle.core_laws.proofs.Kept.{IsUnseen, sessions_unseen, rates_unseen}
use Rattle.core_laws.proofs.Chosen.{choice_first}

-- a waiting request's number and P tag
pub record Turn : Type 0 where
  pub number : ℕ
  pub p : ℤ

abbrev pub turn_of : Row → Turn
turn_of row = record { number = row.number; p = row.p }

-- those of an export, the number of its next request and its last P tag
pub record Lane : Type 0 where
  pub waiting : List Turn
  pub next : ℕ
  pub last : Option ℤ

abbrev pub lane_of : List Turn → Side → Lane
lane_of turns side = record { waiting = turns; next = side.next; last = side.last_p }

abbrev pub lane : ℕ → Table → Lane
lane e table = lane_of (map turn_of (filter (waits_in e) table.rows)) (side table e)

-- ---- what may become of it

abbrev pub turn_lowered : ℤ → Turn → Turn
turn_lowered by turn = record { number = turn.number; p = turn.p -ℤ by }

-- an idle export keeps its last tag
abbrev pub last_lowered : List Turn → ℤ → Option ℤ → Option ℤ
last_lowered [] by last = last
last_lowered (turn ∷ turns) by last = lowered by last

abbrev pub lane_lowered : ℤ → Lane → Lane
lane_lowered by lane = record { waiting = map (turn_lowered by) lane.waiting; next = lane.next; last = last_lowered lane.waiting by lane.last }

abbrev pub lane_pushed : ℕ → ℕ → Lane → Lane
lane_pushed interval t lane = record {
  waiting = lane.waiting ++ record { number = lane.next; p = later lane.last interval t } ∷ [];
  next = lane.next + 1;
  last = Some (later lane.last interval t);
}

abbrev pub lane_popped : Lane → Lane
lane_popped lane = record { waiting = drop 1 lane.waiting; next = lane.next; last = lane.last }

-- ---- changes that no lane sees, and the shift

same_lane : (e : ℕ) (old new : Table) → filter (waits_in e) new.rows ≡ filter (waits_in e) old.rows → ((turns : List Turn) → lane_of turns (side new e) ≡ lane_of turns (side old e)) → lane e new ≡ lane e old
same_lane e old new rows sides = ap (λ (xs : List Row). lane_of (map turn_of xs) (side new e)) rows ∙ sides (map turn_of (filter (waits_in e) old.rows))

turns_lowered : (e : ℕ) (by : ℤ) (xs : List Row) → AllByRecursion (λ x. waits_in e x ≡ true) xs → map turn_of (map (lower_p by) xs) ≡ map (turn_lowered by) (map turn_of xs)
turns_lowered e by [] a = refl
turns_lowered e by (x ∷ xs) a = ap (λ (turn : Turn). turn ∷ map turn_of (map (lower_p by) xs)) (one x (waits_here e x a.0).1) ∙ ap (λ (turns : List Turn). turn_lowered by (turn_of x) ∷ turns) (turns_lowered e by xs a.1)
  where
    one : (x : Row) → x.out ≡ false → turn_of (lower_p by x) ≡ turn_lowered by (turn_of x)
    one x w = rw w refl

abbrev lane_made : List Turn → ℕ → Option ℤ → Lane
lane_made turns next last = record { waiting = turns; next = next; last = last }

same_made : (a b : List Turn) (n : ℕ) (c d : Option ℤ) → a ≡ b → c ≡ d → lane_made a n c ≡ lane_made b n d
same_made a b n c d e f = rw (e, f) refl

last_same : (xs : List Row) (by : ℤ) (last : Option ℤ) → (if length xs == 0 then last else lowered by last) ≡ last_lowered (map turn_of xs) by last
last_same [] by last = refl
last_same (x ∷ xs) by last = go (eqb (suc (length xs)) 0) (not_zero (length xs))
  where
    not_zero : (n : ℕ) → eqb (suc n) 0 ≡ false
    not_zero n = grind (arith, nat_tests)

    go : (b : Bool) → b ≡ false → (if b then last else lowered by last) ≡ lowered by last
    go true h = absurd (grind (arith, h))
    go false h = refl

lane_all_lowered : (e : ℕ) (by : ℤ) (table : Table) → e < length table.sides → lane e (all_lowered by table) ≡ lane_lowered by (lane e table)
lane_all_lowered e by table lt =
    ap (lane_of (map turn_of (filter (waits_in e) (map (lower_p by) table.rows)))) late
    ∙ same_made (map turn_of (filter (waits_in e) (map (lower_p by) table.rows))) (map (turn_lowered by) (map turn_of (filter (waits_in e) table.rows))) (side table e).next
    (if is_idle e table.rows then (side table e).last_p else lowered by (side table e).last_p) (last_lowered (map turn_of (filter (waits_in e) table.rows)) by (side table e).last_p)
    (ap (map turn_of) (filter-map (waits_in e) (lower_p by) (λ x. refl) table.rows) ∙ turns_lowered e by (filter (waits_in e) table.rows) (all_pass (waits_in e) table.rows))
    (last_same (filter (waits_in e) table.rows) by (side table e).last_p)
  where
    late : side (all_lowered by table) e ≡ lower_last_p by table.rows e (side table e)
    late = get_or-change_each (lower_last_p by table.rows) 0 e table.sides no_side lt ∙ ap (λ k. lower_last_p by table.rows k (side table e)) (omega arith)

-- a shift by 0 is none
turns_unlowered : (turns : List Turn) → map (turn_lowered (pos 0)) turns ≡ turns
turns_unlowered [] = refl
turns_unlowered (turn ∷ turns) = ap (λ (one : Turn). one ∷ map (turn_lowered (pos 0)) turns) (ap (λ (p : ℤ). record turn { p = p }) (less_none turn.p)) ∙ ap (λ (rest : List Turn). turn ∷ rest) (turns_unlowered turns)
  where
    less_none : (p : ℤ) → p -ℤ pos 0 ≡ p
    less_none p = omega (arith, ints)

last_unlowered : (turns : List Turn) (last : Option ℤ) → last_lowered turns (pos 0) last ≡ last
last_unlowered [] last = refl
last_unlowered (turn ∷ turns) None = refl
last_unlowered (turn ∷ turns) (Some p) = ap Some (less_none p)
  where
    less_none : (p : ℤ) → p -ℤ pos 0 ≡ p
    less_none p = omega (arith, ints)

pub lane_unlowered : (lane : Lane) → lane_lowered (pos 0) lane ≡ lane
lane_unlowered lane = same_made (map (turn_lowered (pos 0)) lane.waiting) lane.waiting lane.next (last_lowered lane.waiting (pos 0) lane.last) lane.last (turns_unlowered lane.waiting) (last_unlowered lane.waiting lane.last)

some_pair : {X A B : Type 0} (P : A → B → Type 0) (o : Option X) {f : X → A} {d : A} {g : X → B} {c : B} → ((x : X) → o ≡ Some x → P (f x) (g x)) → P d c → P (when_some o f d) (when_some o g c)
some_pair P None p q = q
some_pair P (Some x) p q = p x refl

lane_shifted : (e f t : ℕ) (table : Table) → e < length table.sides → lane e (shifted f t table) ≡ lane_lowered (shift_at f t table) (lane e table)
lane_shifted e f t table lt =
    if_both P (is_idle f table.rows) (is_idle f table.rows) refl
    (some_pair P (foremost p_key (filter (λ row. not row.out) table.rows)) (λ first is. lane_all_lowered e (first.p -ℤ pos t) table lt) none)
    none
  where
    P : Table → ℤ → Type 0
    P new by = lane e new ≡ lane_lowered by (lane e table)

    none : lane e table ≡ lane_lowered (pos 0) (lane e table)
    none = sym (lane_unlowered (lane e table))

-- ---- an arrival

map_push : (xs : List Row) (x : Row) → map turn_of (xs ++ x ∷ []) ≡ map turn_of xs ++ turn_of x ∷ []
map_push [] x = refl
map_push (y ∷ xs) x = ap (λ (turns : List Turn). turn_of y ∷ turns) (map_push xs x)

lane_entered : (e s t : ℕ) (q : RequestMessage) (table : Table) → e < length table.sides → lane e (entered_in e s t q table) ≡ lane_pushed (side table e).rates.p_interval t (lane e table)
lane_entered e s t q table lt =
    ap (lane_of (map turn_of (filter (waits_in e) (put row table.rows)))) late
    ∙ ap (λ (turns : List Turn). lane_made turns ((side table e).next + 1) (Some row.p)) (ap (map turn_of) rows ∙ map_push (filter (waits_in e) table.rows) row)
  where
    row : Row
    row = new_row e s t q (side table e)

    here : (e : ℕ) → (eqb e e && true) ≡ true
    here e = grind (arith, nat_tests)

    rows : filter (waits_in e) (put row table.rows) ≡ filter (waits_in e) table.rows ++ row ∷ []
    rows = put_own (waits_in e) row (λ x h. (waits_here e x h).0) (here e) table.rows

    late : side (entered_in e s t q table) e ≡ record (with_last row (side table e)) { count = (side table e).count + 1 }
    late = get_or-change_at (λ side. record (with_last row side) { count = side.count + 1 }) e table.sides no_side lt

lane_entered_other : (e f s t : ℕ) (q : RequestMessage) (table : Table) → e ≢ f → lane e (entered_in f s t q table) ≡ lane e table
lane_entered_other e f s t q table differ =
    same_lane e table (entered_in f s t q table)
    (put_other (waits_in e) row e (λ x h. (waits_here e x h).0) (away differ) table.rows)
    (λ turns. ap (lane_of turns) (get_or-change_at_other (λ side. record (with_last row side) { count = side.count + 1 }) f e table.sides no_side differ))
  where
    row : Row
    row = new_row f s t q (side table f)

    away : e ≢ f → (eqb f e && true) ≡ false
    away d = grind (arith, nat_tests, d)

-- ---- a choice

-- the first that waits is taken away
sent_rows : (c : Row) (xs : List Row) → Sorted xs → slice_get (filter (λ x. not x.out) xs) 0 ≡ Some c → filter (λ x. not x.out) (map (send c) xs) ≡ drop 1 (filter (λ x. not x.out) xs)
sent_rows c [] sorted first = refl
sent_rows c (x ∷ xs) sorted first = go x.out refl (sent_rows c xs sorted.1)
  where
    go : (b : Bool) → x.out ≡ b → (slice_get (filter (λ x. not x.out) xs) 0 ≡ Some c → filter (λ x. not x.out) (map (send c) xs) ≡ drop 1 (filter (λ x. not x.out) xs)) → filter (λ x. not x.out) (map (send c) (x ∷ xs)) ≡ drop 1 (filter (λ x. not x.out) (x ∷ xs))
    go true h ih = rw h (ih (rw h at first))
    go false h ih =
        let is : x ≡ c = same_Some x c (subst (λ (b : Bool). slice_get (if not b then (x ∷ filter (λ y. not y.out) xs) else filter (λ y. not y.out) xs) 0 ≡ Some c) h first) in
        let rest : map (send c) xs ≡ xs = rest_same c x xs is sorted.0 in
        rw (is_sent c x is, h, rest) refl

map_drop : (xs : List Row) → map turn_of (drop 1 xs) ≡ drop 1 (map turn_of xs)
map_drop [] = refl
map_drop (x ∷ xs) = refl

lane_sent : (e : ℕ) (table : Table) (c : Row) → Sorted (rows_of e table.rows) → slice_get (filter (waits_in e) table.rows) 0 ≡ Some c → lane e (sent c table) ≡ lane_popped (lane e table)
lane_sent e table c sorted first =
    ap (λ (xs : List Row). lane_of (map turn_of xs) (side (sent c table) e)) rows
    ∙ unseen-change_at (lane_of (map turn_of (drop 1 (filter (waits_in e) table.rows)))) (λ side. record side { count = side.count + 1 }) (λ x. refl) c.export e table.sides no_side
    ∙ ap (λ (turns : List Turn). lane_of turns (side table e)) (map_drop (filter (waits_in e) table.rows))
  where
    first_of_e : slice_get (filter (λ x. not x.out) (rows_of e table.rows)) 0 ≡ Some c
    first_of_e = subst (λ (xs : List Row). slice_get xs 0 ≡ Some c) (filter-and (is_of e) (λ x. not x.out) table.rows) first

    rows : filter (waits_in e) (map (send c) table.rows) ≡ drop 1 (filter (waits_in e) table.rows)
    rows =
        filter-and (is_of e) (λ x. not x.out) (map (send c) table.rows)
        ∙ ap (filter (λ x. not x.out)) (filter-map (is_of e) (send c) (λ x. refl) table.rows)
        ∙ sent_rows c (rows_of e table.rows) sorted first_of_e
        ∙ ap (drop 1) (sym (filter-and (is_of e) (λ x. not x.out) table.rows))

lane_sent_other : (e : ℕ) (table : Table) (c : Row) → e ≢ c.export → lane e (sent c table) ≡ lane e table
lane_sent_other e table c differ =
    same_lane e table (sent c table)
    (filter-and (is_of e) (λ x. not x.out) (map (send c) table.rows) ∙ ap (filter (λ x. not x.out)) rows ∙ sym (filter-and (is_of e) (λ x. not x.out) table.rows))
    (λ turns. unseen-change_at (lane_of turns) (λ side. record side { count = side.count + 1 }) (λ x. refl) c.export e table.sides no_side)
  where
    same : (x : Row) → x.export ≡ e → send c x ≡ x
    same x h = ap (λ o. record x { out = o }) (stays x.out (away x h))
      where
        away : (x : Row) → x.export ≡ e → (x.export == c.export) ≡ false
        away x h = grind (arith, nat_tests, h, differ)

        stays : (b : Bool) → (x.export == c.export) ≡ false → (b || (x.export == c.export && x.number == c.number)) ≡ b
        stays true a = refl
        stays false a = rw a refl

    rows : rows_of e (map (send c) table.rows) ≡ rows_of e table.rows
    rows = filter-map (is_of e) (send c) (λ x. refl) table.rows ∙ map_same_on (send c) (λ x. x.export ≡ e) (λ x h. same x h) (rows_of e table.rows) (is_of_all e table.rows)

lane_credited : (e by f : ℕ) (table : Table) → lane e (credited by f table) ≡ lane e table
lane_credited e by f table =
    ap (λ (xs : List Row). lane_of (map turn_of xs) (side (credited by f table) e)) (filter-map (waits_in e) (lower_r by f) (λ x. refl) table.rows)
    ∙ ap (λ (turns : List Turn). lane_of turns (side (credited by f table) e)) (map-map_same turn_of (lower_r by f) (λ x. refl) (filter (waits_in e) table.rows))
    ∙ unseen-change_at (lane_of (map turn_of (filter (waits_in e) table.rows))) (lower_last_r by) (λ x. refl) f e table.sides no_side

lane_credit : (chosen : Choice) (e : ℕ) (table : Table) → lane e (with_credit chosen table) ≡ lane e table
lane_credit chosen e table =
    if_one P (is_by_weight chosen.phase)
    (some_one P (side table chosen.row.export).rates.r_interval (λ by k. lane_credited e by chosen.row.export table) refl)
    refl
  where
    P : Table → Type 0
    P a = lane e a ≡ lane e table

lane_side : (e f : ℕ) (table : Table) (change : Side → Side) → IsUnseen f table change → lane e (changed f table table.rows change) ≡ lane e table
lane_side e f table change unseen = unseen_there (lane_of turns) (λ side. record (change side) { count = side.count + 1 }) f e table.sides no_side same
  where
    turns : List Turn
    turns = map turn_of (filter (waits_in e) table.rows)

    same : lane_of turns (record (change (side table f)) { count = (side table f).count + 1 }) ≡ lane_of turns (side table f)
    same = λ i. record { waiting = turns; next = unseen.next i; last = unseen.p i }

lane_done : (e f : ℕ) (table : Table) (row : Row) → lane e (done_in f row table) ≡ lane e table
lane_done e f table row = same_lane e table (done_in f row table) (waits_kept e f row.number table.rows) (λ turns. unseen-change_at (lane_of turns) (λ side. record (done_side row side) { count = side.count + 1 }) (λ x. refl) f e table.sides no_side)

lane_undone : (e f : ℕ) (table : Table) (row : Row) → lane e (undone_in f row table) ≡ lane e table
lane_undone e f table row = same_lane e table (undone_in f row table) (waits_kept e f row.number table.rows) (λ turns. unseen-change_at (lane_of turns) (λ side. record (undone_side row side) { count = side.count + 1 }) (λ x. refl) f e table.sides no_side)

module _ {A : Type 0} where
  -- ---- what each event does

  abbrev pub lane_after : ℕ → ℕ → Event A → Answer A → ℤ → Lane → Lane
  lane_after e interval (Arrive f s t q) said by lane = if is_accepted said then (if f == e then lane_pushed interval t (lane_lowered by lane) else lane_lowered by lane) else lane
  lane_after e interval (Dispatch t) said by lane = if is_choice_of e said then lane_popped lane else lane
  lane_after e interval event said by lane = lane

  -- an event that chooses nothing
  abbrev pub IsQuiet : Event A → Type 0
  IsQuiet (Dispatch t) = ⊥
  IsQuiet event = Unit {0}

  abbrev pub is_arrival_of : ℕ → Event A → Bool
  is_arrival_of e (Arrive f s t q) = f == e
  is_arrival_of e event = false

  pub record Goes (e : ℕ) (table : Table) (event : Event A) (new : Outcome A) : Type 0 where
    pub moves : lane e new.table ≡ lane_after e (side table e).rates.p_interval event new.answer (fall table event new.answer) (lane e table)
    pub quiet : IsQuiet event → (f : ℕ) → is_choice_of f new.answer ≡ false
    pub quiet_in : IsQuiet event → (f : ℕ) (phase : Phase) → is_choice_in f phase new.answer ≡ false
    pub numbered : is_arrival_of e event ≡ true → is_accepted new.answer ≡ true → (tag : ℤ) × (new.answer ≡ said.Accepted (side table e).next tag)

  -- nothing chosen, nothing accepted
  still : (e : ℕ) (table : Table) (event : Event A) (new : Outcome A) → lane e new.table ≡ lane_after e (side table e).rates.p_interval event new.answer (fall table event new.answer) (lane e table) →
      ((f : ℕ) → is_choice_of f new.answer ≡ false) → ((f : ℕ) (phase : Phase) → is_choice_in f phase new.answer ≡ false) → is_accepted new.answer ≡ false → Goes e table event new
  still e table event new same none none_in refused = record { moves = same; quiet = λ q. none; quiet_in = λ q. none_in; numbered = λ h k. true_false (sym k ∙ refused) }

  goes_own : (e s t : ℕ) (q : RequestMessage) (table : Table) → e < length table.sides → Goes e table (Arrive e s t q) (accepted_in e s t q (shifted e t table))
  goes_own e s t q table lt = record {
    moves = rw (here e) (lane_entered e s t q (shifted e t table) (rw (length-shifted e t table) lt)
        ∙ ap (λ (rates : Intervals). lane_pushed rates.p_interval t (lane e (shifted e t table))) rates
        ∙ ap (lane_pushed (side table e).rates.p_interval t) (lane_shifted e e t table lt));
    quiet = λ w f. refl;
    quiet_in = λ w f phase. refl;
    numbered = λ h k. (tag, ap (λ (n : ℕ). accepted n tag) (ap (λ (l : Lane). l.next) (lane_shifted e e t table lt)));
  }
    where
      here : (e : ℕ) → eqb e e ≡ true
      here e = grind (arith, nat_tests)

      rates : (side (shifted e t table) e).rates ≡ (side table e).rates
      rates = ap (λ (a : Alone). a.rates) (part_shifted e e t table)

      tag : ℤ
      tag = later (side (shifted e t table) e).last_l (side (shifted e t table) e).rates.l_interval t

      accepted : ℕ → ℤ → Answer A
      accepted n tag = said.Accepted n tag

  goes_arrival : (e f s t : ℕ) (q : RequestMessage) (table : Table) → e < length table.sides → (b : Bool) → eqb f e ≡ b → Goes e table (Arrive f s t q) (accepted_in f s t q (shifted f t table))
  goes_arrival e f s t q table lt true is = subst (λ (x : ℕ). Goes e table (Arrive x s t q) (accepted_in x s t q (shifted x t table))) same (goes_own e s t q table lt)
    where
      same : e ≡ f
      same = grind (arith, nat_tests, is)
  goes_arrival e f s t q table lt false is = record {
    moves = rw is (lane_entered_other e f s t q (shifted f t table) (λ x. differ x) ∙ lane_shifted e f t table lt);
    quiet = λ w f. refl;
    quiet_in = λ w f phase. refl;
    numbered = λ own k. true_false (sym own ∙ is);
  }
    where
      differ : e ≡ f → ⊥
      differ x = grind (arith, nat_tests, is, x)

  goes_sent : (setup : Setup) (e t : ℕ) (table : Table) (chosen : Choice) → Tidy e table → choice setup.inflight (record table { now = max table.now t }) ≡ Some chosen → (b : Bool) → eqb chosen.row.export e ≡ b →
      Goes e table (Dispatch t) (outcome (with_credit chosen (sent chosen.row (record table { now = max table.now t }))) (said.Picked chosen.row.export chosen.row.number chosen.phase))
  goes_sent setup e t table chosen tidy is b h = record {
    moves = go b h;
    quiet = λ q. absurd q;
    quiet_in = λ q. absurd q;
    numbered = λ own k. true_false (sym own);
  }
    where
      now : Table
      now = record table { now = max table.now t }

      go : (b : Bool) → eqb chosen.row.export e ≡ b → lane e (with_credit chosen (sent chosen.row now)) ≡ (if eqb chosen.row.export e then lane_popped (lane e table) else lane e table)
      go true h = rw h (lane_credit chosen e (sent chosen.row now) ∙ lane_sent e now chosen.row tidy.sorted (choice_first setup.inflight now chosen is e same tidy.sorted))
        where
          same : e ≡ chosen.row.export
          same = grind (arith, nat_tests, h)
      go false h = rw h (lane_credit chosen e (sent chosen.row now) ∙ lane_sent_other e now chosen.row differ)
        where
          differ : e ≡ chosen.row.export → ⊥
          differ k = grind (arith, nat_tests, h, k)

  pub goes : (setup : Setup) (table : Table) (e : ℕ) (event : Event A) (memory : Bool) → Tidy e table → Goes e table event (step setup table event memory)
  goes setup table e (Attach named) memory tidy =
      let event : Event A = Attach named in
      let P = Goes e table event in
      some_one P (slice_get setup.exports named) (λ other h.
      if_one P (nat_le (2 ^ 56) (side table named).count) (still e table event _ refl (λ f. refl) (λ f phase. refl) refl)
      (if_one P (length (filter is_here (side table named).sessions) == 64) (still e table event _ refl (λ f. refl) (λ f phase. refl) refl)
      (if_one P (not memory) (still e table event _ refl (λ f. refl) (λ f phase. refl) refl)
      (still e table event _ (lane_side e named table (with_sessions _) (sessions_unseen named table _)) (λ f. refl) (λ f phase. refl) refl)))) (still e table event _ refl (λ f. refl) (λ f phase. refl) refl)
  goes setup table e (Arrive named s t q) memory tidy =
      let event : Event A = Arrive named s t q in
      let P = Goes e table event in
      some_one P (slice_get setup.exports named) (λ other h.
      if_one P (not (is_open_at (side table named).sessions s)) (still e table event _ refl (λ f. refl) (λ f phase. refl) refl)
      (if_one P (nat_le (2 ^ 56) (side table named).count) (still e table event _ refl (λ f. refl) (λ f phase. refl) refl)
      (if_one P (outstanding_in named s table == other.window) (still e table event _ refl (λ f. refl) (λ f phase. refl) refl)
      (if_one P (not memory) (still e table event _ refl (λ f. refl) (λ f phase. refl) refl)
      (if_one P (not (verdict_of other q == 0)) (still e table event _ (lane_side e named table (with_sessions _) (sessions_unseen named table _)) (λ f. refl) (λ f phase. refl) refl)
      (if_one P (length (filter (waits_in named) table.rows) == other.depth) (still e table event _ (lane_side e named table (with_sessions _) (sessions_unseen named table _)) (λ f. refl) (λ f phase. refl) refl)
      (goes_arrival e named s t q table tidy.there (eqb named e) refl))))))) (still e table event _ refl (λ f. refl) (λ f phase. refl) refl)
  goes setup table e (Dispatch t) memory tidy =
      let now : Table = record table { now = max table.now t } in
      some_told (Goes e table (Dispatch t)) (choice setup.inflight now)
      (λ chosen is. goes_sent setup e t table chosen tidy is (eqb chosen.row.export e) refl)
      (λ none. record { moves = refl; quiet = λ q. absurd q; quiet_in = λ q. absurd q; numbered = λ own k. true_false (sym own) })
  goes setup table e (Perform named n) memory tidy =
      let event : Event A = Perform named n in
      let P = Goes e table event in
      some_one P (find (is_out_row named n) table.rows) (λ row h.
      if_one P (not memory && may_want_memory row.request)
      (still e table event _ (lane_undone e named table row) (λ f. refl) (λ f phase. refl) refl)
      (still e table event _ (lane_done e named table row) (λ f. refl) (λ f phase. refl) refl)) (still e table event _ refl (λ f. refl) (λ f phase. refl) refl)
  goes setup table e (Take named s) memory tidy =
      let event : Event A = Take named s in
      let P = Goes e table event in
      some_one P (slice_get setup.exports named) (λ other h.
      if_one P (not (is_here_at (side table named).sessions s)) (still e table event _ refl (λ f. refl) (λ f phase. refl) refl)
      (some_one P (slice_get (outbox_at (side table named).sessions s) 0) (λ reply k. still e table event _ (lane_side e named table (with_sessions _) (sessions_unseen named table _)) (λ f. refl) (λ f phase. refl) refl)
      (if_one P (is_left_at (side table named).sessions s && outstanding_in named s table == 0) (still e table event _ refl (λ f. refl) (λ f phase. refl) refl) (still e table event _ refl (λ f. refl) (λ f phase. refl) refl)))) (still e table event _ refl (λ f. refl) (λ f phase. refl) refl)
  goes setup table e (Leave named s) memory tidy =
      let event : Event A = Leave named s in
      let P = Goes e table event in
      some_one P (slice_get setup.exports named) (λ other h.
      if_one P (not (is_open_at (side table named).sessions s)) (still e table event _ refl (λ f. refl) (λ f phase. refl) refl) (still e table event _ (lane_side e named table (with_sessions _) (sessions_unseen named table _)) (λ f. refl) (λ f phase. refl) refl)) (still e table event _ refl (λ f. refl) (λ f phase. refl) refl)
  goes setup table e (Gone named s) memory tidy =
      let event : Event A = Gone named s in
      let P = Goes e table event in
      some_one P (slice_get setup.exports named) (λ other h.
      if_one P (not (is_here_at (side table named).sessions s)) (still e table event _ refl (λ f. refl) (λ f phase. refl) refl) (still e table event _ (lane_side e named table (with_sessions _) (sessions_unseen named table _)) (λ f. refl) (λ f phase. refl) refl)) (still e table event _ refl (λ f. refl) (λ f phase. refl) refl)
  goes setup table e (Retune named rates) memory tidy =
      let event : Event A = Retune named rates in
      let P = Goes e table event in
      some_one P (slice_get setup.exports named) (λ other h.
      if_one P (nat_le (2 ^ 56) (side table named).count) (still e table event _ refl (λ f. refl) (λ f phase. refl) refl)
      (if_told P (not (length (filter (waits_in named) table.rows) == 0)) (λ h. still e table event _ refl (λ f. refl) (λ f phase. refl) refl)
      (λ idle. if_one P (not memory) (still e table event _ refl (λ f. refl) (λ f phase. refl) refl)
      (still e table event _ (lane_side e named table (with_rates rates) (rates_unseen named table rates idle)) (λ f. refl) (λ f phase. refl) refl)))) (still e table event _ refl (λ f. refl) (λ f phase. refl) refl)
