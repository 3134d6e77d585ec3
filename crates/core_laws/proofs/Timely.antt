-- Where an export's requests arrive in time, its tags stand an interval apart.
use Rattle.std.proofs.Common.{◌≡◌, ◌⊎◌, ℕ, zero, suc, ◌+◌, ◌-◌, ◌*◌, ◌/◌, ◌<◌, ◌≤◌, Bool, true, false, eqb, ◌==◌, List, [], ◌∷◌, ◌++◌, length, map, filter, take, drop, slice_get, Option, Some, None, if◌then◌else◌, ℤ, pos, negsuc, ◌-ℤ◌, ◌+ℤ◌, ◌≤ℤ◌, refl, sym, subst, ap, ◌∙◌, arith, inl, inr}
use Rattle.std.specs.Int.{int_gap, int_max}
use Rattle.std.proofs.lemmas.Int.{ints, clamps}
use Rattle.std.proofs.lemmas.Bool.Decides.{nat_tests}
use Rattle.std.proofs.lemmas.Option.{same_Some, none-some}
use Rattle.nbd_wire.specs.Grammar.{RequestMessage}
use Rattle.tag_clock.specs.Tags.{later}
use Rattle.server_table.specs.declared.event.Event.{Event}
use Rattle.server_table.specs.declared.event.Event.TheVariants.{Attach, Arrive, Dispatch, Perform, Take, Leave, Gone, Retune}
use Rattle.server_table.specs.declared.event.Answer.{Answer}
use Rattle.server_table.specs.declared.event.Answer.TheVariants as said
use Rattle.server_table.specs.Table.{Row, Table, Setup, side, waits_in, is_idle, opening_table}
use Rattle.server_table.specs.Steps.{Outcome, step, run_answers}
use Rattle.server_table.specs.Shares.{is_choice_of}
use Rattle.core_laws.specs.Counts.{is_accepted}
use Rattle.core_laws.specs.Statements.{table_before}
use Rattle.core_laws.specs.Shares.{shift_at, fall, fallen_before, in_terms_of, chosen_before, weight_choices, all_choices, p_interval_at, WaitsThrough, GoesFrom, ArriveInTime}
use Rattle.lone_export.proofs.Cases.{if_one}
use Rattle.core_laws.proofs.Lanes.{Turn, Lane, lane, turn_of, turn_lowered, lane_lowered, lane_unlowered, lane_pushed, lane_popped, lane_after, IsQuiet, Goes, goes}
use Rattle.core_laws.proofs.Chains.{IsChain, Chained, IsWaiting, Reached, ReachedThrough, moves_at, reached_before, reached_through}
use Rattle.core_laws.proofs.Runs.{Steady, rates_step}
use Rattle.tag_clock.specs.Intervals.{Intervals}
use Rattle.nbd_commands.specs.Terms.{Terms}
use Rattle.core_laws.proofs.Onward.{along, counted, Ended, OnwardBy, onward}
use Rattle.core_laws.proofs.Beside.{waiting_is, Alongside, bounded}

-- ---- an interval apart

-- of the requests from number a up to number b
abbrev IsOnTime : ℕ → ℕ → ℕ → Turn → List Turn → Type 0
IsOnTime interval a b turn [] = Unit {0}
IsOnTime interval a b turn (other ∷ turns) = a ≤ turn.number → other.number ≤ b → other.p ≡ turn.p +ℤ pos interval

abbrev IsTimely : ℕ → ℕ → ℕ → List Turn → Type 0
IsTimely interval a b [] = Unit {0}
IsTimely interval a b (turn ∷ turns) = IsOnTime interval a b turn turns × IsTimely interval a b turns

timely_lowered : (interval a b : ℕ) (by : ℤ) (turns : List Turn) → IsTimely interval a b turns → IsTimely interval a b (map (turn_lowered by) turns)
timely_lowered interval a b by [] h = tt
timely_lowered interval a b by (x ∷ []) h = (tt, tt)
timely_lowered interval a b by (x ∷ y ∷ turns) h = (λ low up. both x.p y.p by interval (h.0 low up), timely_lowered interval a b by (y ∷ turns) h.1)
  where
    both : (p q by : ℤ) (i : ℕ) → q ≡ p +ℤ pos i → q -ℤ by ≡ (p -ℤ by) +ℤ pos i
    both p q by i e = omega (arith, ints, e)

timely_popped : (interval a b : ℕ) (turns : List Turn) → IsTimely interval a b turns → IsTimely interval a b (drop 1 turns)
timely_popped interval a b [] h = tt
timely_popped interval a b (x ∷ turns) h = h.1

-- the next request isn't late
abbrev IsInTime : ℕ → ℕ → ℕ → ℕ → ℕ → Option ℤ → Type 0
IsInTime interval a b t next last = (p : ℤ) → a < next → next ≤ b → last ≡ Some p → pos t ≤ℤ (p +ℤ pos interval)

timely_pushed : (interval a b t : ℕ) (turns : List Turn) (next : ℕ) (last : Option ℤ) → IsChain interval turns next last → IsInTime interval a b t next last → IsTimely interval a b turns →
    IsTimely interval a b (turns ++ record { number = next; p = later last interval t } ∷ [])
timely_pushed interval a b t [] next last chain in_time h = (tt, tt)
timely_pushed interval a b t (x ∷ []) next last chain in_time h = (λ low up. at x.p last chain.0.1 (in_time x.p (under x.number next chain.0.0 low) up chain.0.1), (tt, tt))
  where
    under : (m n : ℕ) → m + 1 ≡ n → a ≤ m → a < n
    under m n e le = omega (arith, e, le)

    exact : (p : ℤ) (i t : ℕ) → pos t ≤ℤ (p +ℤ pos i) → int_max (p +ℤ pos i) (pos t) ≡ p +ℤ pos i
    exact p i t h = omega (arith, ints, clamps)

    at : (p : ℤ) (last : Option ℤ) → last ≡ Some p → pos t ≤ℤ (p +ℤ pos interval) → later last interval t ≡ p +ℤ pos interval
    at p None e h = absurd (none-some p e)
    at p (Some q) e h = subst (λ (x : ℤ). int_max (x +ℤ pos interval) (pos t) ≡ p +ℤ pos interval) (sym (same_Some q p e)) (exact p interval t h)
timely_pushed interval a b t (x ∷ y ∷ turns) next last chain in_time h = (h.0, timely_pushed interval a b t (y ∷ turns) next last chain.1 in_time h.1)

none_waits : (xs : List Row) → (length xs == 0) ≡ true → map turn_of xs ≡ []
none_waits [] h = refl
none_waits (x ∷ xs) h = absurd (never (length xs) h)
  where
    never : (n : ℕ) → eqb (suc n) 0 ≡ true → ⊥
    never n h = grind (arith, nat_tests, h)

module _ (A : Type 0) (setup : Setup) (f interval a b : ℕ) where
  -- the event is no late arrival of f
  abbrev InTime : Table → Event A → Bool → Type 0
  InTime table event memory = (s t n : ℕ) (q : RequestMessage) (tag last : ℤ) → event ≡ Arrive f s t q → (step setup table event memory).answer ≡ said.Accepted n tag →
      a < n → n ≤ b → (side table f).last_p ≡ Some last → pos t ≤ℤ (last +ℤ pos interval)

  abbrev Timely : Lane → Type 0
  Timely l = IsTimely interval a b l.waiting

  -- its own accepted arrival: no shift where a request waits, and where none waits no tag before it
  timely_own : (table : Table) (t : ℕ) → Reached f interval table → Timely (lane f table) → IsInTime interval a b t (side table f).next (side table f).last_p →
      Timely (lane_pushed interval t (lane_lowered (shift_at f t table) (lane f table)))
  timely_own table t at h in_time = go (is_idle f table.rows) refl
    where
      pushed : Turn
      pushed = record { number = (side table f).next; p = later (lane_lowered (shift_at f t table) (lane f table)).last interval t }

      go : (c : Bool) → is_idle f table.rows ≡ c → Timely (lane_pushed interval t (lane_lowered (shift_at f t table) (lane f table)))
      go true idle = subst (λ (turns : List Turn). IsTimely interval a b (map (turn_lowered (shift_at f t table)) turns ++ pushed ∷ [])) (sym (none_waits (filter (waits_in f) table.rows) idle)) (tt, tt)
      go false active = subst (λ (l : Lane). Timely (lane_pushed interval t l)) (sym (ap (λ by. lane_lowered by (lane f table)) unshifted ∙ lane_unlowered (lane f table)))
          (timely_pushed interval a b t (lane f table).waiting (lane f table).next (lane f table).last at.chained.turns in_time h)
        where
          unshifted : shift_at f t table ≡ pos 0
          unshifted = rw active refl

  timely_arrival : (table : Table) (g s t : ℕ) (q : RequestMessage) (memory : Bool) → Reached f interval table → InTime table (Arrive g s t q) memory → Timely (lane f table) →
      (c d : Bool) → is_accepted (step {A = A} setup table (Arrive g s t q) memory).answer ≡ c → eqb g f ≡ d →
      Timely (lane_after {A = A} f interval (Arrive g s t q) (step {A = A} setup table (Arrive g s t q) memory).answer (fall {A = A} table (Arrive g s t q) (step {A = A} setup table (Arrive g s t q) memory).answer) (lane f table))
  timely_arrival table g s t q memory at in_time h false d accepted own = rw accepted h
  timely_arrival table g s t q memory at in_time h true false accepted own = rw (accepted, own) (timely_lowered interval a b (shift_at g t table) (lane f table).waiting h)
  timely_arrival table g s t q memory at in_time h true true accepted own = rw (accepted, own) (subst (λ (k : ℕ). Timely (lane_pushed interval t (lane_lowered (shift_at k t table) (lane f table)))) (sym same) (timely_own table t at h here))
    where
      same : g ≡ f
      same = grind (arith, nat_tests, own)

      event_is : ◌≡◌ {A = Event A} (Arrive g s t q) (Arrive f s t q)
      event_is = arrive same
        where
          arrive : {k : ℕ} → g ≡ k → ◌≡◌ {A = Event A} (Arrive g s t q) (Arrive k s t q)
          arrive e = rw (← e) refl

      told : (tag : ℤ) × ((step {A = A} setup table (Arrive g s t q) memory).answer ≡ said.Accepted (side table f).next tag)
      told = (goes setup table f (Arrive g s t q) memory at.tidy).numbered own accepted

      here : IsInTime interval a b t (side table f).next (side table f).last_p
      here p low up last = in_time s t (side table f).next q told.0 p event_is told.1 low up last

  timely_step : (table : Table) (event : Event A) (memory : Bool) → Reached f interval table → InTime table event memory → Timely (lane f table) → Timely (lane f (step setup table event memory).table)
  timely_step table event memory at in_time h = subst Timely (sym (moves_at setup table f interval event memory at)) (go event in_time)
    where
      go : (event : Event A) → InTime table event memory → Timely (lane_after f interval event (step setup table event memory).answer (fall table event (step setup table event memory).answer) (lane f table))
      go (Attach g) in_time = h
      go (Arrive g s t q) in_time = timely_arrival table g s t q memory at in_time h (is_accepted (step {A = A} setup table (Arrive g s t q) memory).answer) (eqb g f) refl refl
      go (Dispatch t) in_time = if_one Timely (is_choice_of f (step {A = A} setup table (Dispatch t) memory).answer) (timely_popped interval a b (lane f table).waiting h) h
      go (Perform g n) in_time = h
      go (Take g s) in_time = h
      go (Leave g s) in_time = h
      go (Gone g s) in_time = h
      go (Retune g rates) in_time = h

-- ---- the first request

abbrev one_if : Bool → ℕ
one_if b = if b then 1 else 0

-- it has this number; and up to number b this tag
abbrev IsHead : ℕ → ℕ → ℤ → List Turn → Type 0
IsHead n b v [] = ⊥
IsHead n b v (turn ∷ turns) = (turn.number ≡ n) × (n ≤ b → turn.p ≡ v)

is_head_as : (n m b : ℕ) (v w : ℤ) (turns : List Turn) → n ≡ m → v ≡ w → IsHead n b v turns → IsHead m b w turns
is_head_as n m b v w turns e f h = subst (λ (k : ℕ). IsHead k b w turns) e (subst (λ (z : ℤ). IsHead n b z turns) f h)

head_lowered : (n b : ℕ) (v by : ℤ) (turns : List Turn) → IsHead n b v turns → IsHead n b (v -ℤ by) (map (turn_lowered by) turns)
head_lowered n b v by [] h = absurd h
head_lowered n b v by (x ∷ turns) h = (h.0, λ le. ap (λ (p : ℤ). p -ℤ by) (h.1 le))

head_pushed : (n b : ℕ) (v : ℤ) (turns : List Turn) (turn : Turn) → IsHead n b v turns → IsHead n b v (turns ++ turn ∷ [])
head_pushed n b v [] turn h = absurd h
head_pushed n b v (x ∷ turns) turn h = h

head_popped : (interval a n b : ℕ) (v : ℤ) (turns : List Turn) (next : ℕ) (last : Option ℤ) → IsChain interval turns next last → IsTimely interval a b turns → a ≤ n → IsHead n b v turns → IsWaiting (drop 1 turns) →
    IsHead (n + 1) b (v +ℤ pos interval) (drop 1 turns)
head_popped interval a n b v [] next last chain timely le h waits = absurd h
head_popped interval a n b v (x ∷ []) next last chain timely le h waits = absurd waits
head_popped interval a n b v (x ∷ y ∷ turns) next last chain timely le h waits = (number x.number y.number chain.0.0 h.0, λ up. timely.0 (low x.number h.0) (most x.number y.number chain.0.0 h.0 up) ∙ ap (λ (p : ℤ). p +ℤ pos interval) (h.1 (less up)))
  where
    number : (i j : ℕ) → i + 1 ≡ j → i ≡ n → j ≡ n + 1
    number i j e h = omega (arith, e, h)

    low : (i : ℕ) → i ≡ n → a ≤ i
    low i e = omega (arith, e, le)

    most : (i j : ℕ) → i + 1 ≡ j → i ≡ n → n + 1 ≤ b → j ≤ b
    most i j e h up = omega (arith, e, h, up)

    less : n + 1 ≤ b → n ≤ b
    less up = omega (arith, up)

module _ (A : Type 0) (f interval a b n : ℕ) (v : ℤ) (lane : Lane) (chained : Chained interval lane) (timely : IsTimely interval a b lane.waiting) (le : a ≤ n) (head : IsHead n b v lane.waiting) where
  -- what it is after an event
  abbrev HeadAfter : Table → Event A → Answer A → Bool → Type 0
  HeadAfter table event said chosen = IsHead (n + one_if chosen) b ((v -ℤ fall table event said) +ℤ pos (one_if chosen * interval)) (lane_after f interval event said (fall table event said) lane).waiting

  plus : (n : ℕ) → n ≡ n + 0
  plus n = omega arith

  unmoved : (v d : ℤ) (i : ℕ) → v -ℤ d ≡ (v -ℤ d) +ℤ pos (0 * i)
  unmoved v d i = omega (arith, ints)

  from_zero : (v : ℤ) (i : ℕ) → v ≡ (v -ℤ pos 0) +ℤ pos (0 * i)
  from_zero v i = omega (arith, ints)

  from_one : (v : ℤ) (i : ℕ) → v +ℤ pos i ≡ (v -ℤ pos 0) +ℤ pos (1 * i)
  from_one v i = omega (arith, ints)

  stays : IsHead (n + 0) b ((v -ℤ pos 0) +ℤ pos (0 * interval)) lane.waiting
  stays = is_head_as n (n + 0) b v ((v -ℤ pos 0) +ℤ pos (0 * interval)) lane.waiting (plus n) (from_zero v interval) head

  head_after : (table : Table) (event : Event A) (said : Answer A) → (IsQuiet event → is_choice_of f said ≡ false) → IsWaiting (lane_after f interval event said (fall table event said) lane).waiting → HeadAfter table event said (is_choice_of f said)
  head_after table (Attach g) said quiet waits = rw (quiet tt) stays
  head_after table (Arrive g s t q) said quiet waits = rw (quiet tt) (go (is_accepted said))
    where
      by : ℤ
      by = shift_at g t table

      low : IsHead (n + 0) b ((v -ℤ by) +ℤ pos (0 * interval)) (map (turn_lowered by) lane.waiting)
      low = is_head_as n (n + 0) b (v -ℤ by) ((v -ℤ by) +ℤ pos (0 * interval)) (map (turn_lowered by) lane.waiting) (plus n) (unmoved v by interval) (head_lowered n b v by lane.waiting head)

      go : (c : Bool) → IsHead (n + 0) b ((v -ℤ (if c then by else pos 0)) +ℤ pos (0 * interval)) (if c then (if g == f then lane_pushed interval t (lane_lowered (if c then by else pos 0) lane) else lane_lowered (if c then by else pos 0) lane) else lane).waiting
      go true = if_one (λ (l : Lane). IsHead (n + 0) b ((v -ℤ by) +ℤ pos (0 * interval)) l.waiting) (g == f)
          (head_pushed (n + 0) b ((v -ℤ by) +ℤ pos (0 * interval)) (map (turn_lowered by) lane.waiting) (record { number = lane.next; p = later (lane_lowered by lane).last interval t }) low) low
      go false = stays
  head_after table (Dispatch t) said quiet waits = go (is_choice_of f said) waits
    where
      go : (c : Bool) → IsWaiting (if c then lane_popped lane else lane).waiting → IsHead (n + one_if c) b ((v -ℤ pos 0) +ℤ pos (one_if c * interval)) (if c then lane_popped lane else lane).waiting
      go true waits = is_head_as (n + 1) (n + 1) b (v +ℤ pos interval) ((v -ℤ pos 0) +ℤ pos (1 * interval)) (drop 1 lane.waiting) refl (from_one v interval)
          (head_popped interval a n b v lane.waiting lane.next lane.last chained.turns timely le head waits)
      go false waits = stays
  head_after table (Perform g m) said quiet waits = rw (quiet tt) stays
  head_after table (Take g s) said quiet waits = rw (quiet tt) stays
  head_after table (Leave g s) said quiet waits = rw (quiet tt) stays
  head_after table (Gone g s) said quiet waits = rw (quiet tt) stays
  head_after table (Retune g rates) said quiet waits = rw (quiet tt) stays

-- ---- from place to place

terms_at : (p a b d : ℤ) (c m i : ℕ) → (((p -ℤ (a -ℤ b)) +ℤ pos (c * i)) -ℤ d) +ℤ pos (m * i) ≡ (p -ℤ ((a +ℤ d) -ℤ b)) +ℤ pos ((c + m) * i)
terms_at p a b d c m i = omega (arith, ints)

gap_is : (a b : ℤ) (m : ℕ) → b ≡ a +ℤ pos m → int_gap a b ≡ m
gap_is (pos a) (pos b) m h = omega (arith, ints, h)
gap_is (pos a) (negsuc b) m h = omega (arith, ints, h)
gap_is (negsuc a) (pos b) m h = omega (arith, ints, h)
gap_is (negsuc a) (negsuc b) m h = omega (arith, ints, h)

head_of : (n b : ℕ) (v : ℤ) (xs : List Row) (row : Row) → slice_get xs 0 ≡ Some row → IsHead n b v (map turn_of xs) → (row.number ≡ n) × (n ≤ b → row.p ≡ v)
head_of n b v [] row first h = absurd h
head_of n b v (x ∷ xs) row first h = subst (λ (r : Row). (r.number ≡ n) × (n ≤ b → r.p ≡ v)) (same_Some x row first) h

of_head : (b : ℕ) (v : ℤ) (xs : List Row) (row : Row) → slice_get xs 0 ≡ Some row → row.p ≡ v → IsHead row.number b v (map turn_of xs)
of_head b v [] row first e = absurd (none-some row first)
of_head b v (x ∷ xs) row first e = (ap (λ (r : Row). r.number) (same_Some x row first), λ le. ap (λ (r : Row). r.p) (same_Some x row first) ∙ e)

module _ {A : Type 0} where
  module _ (setup : Setup) (terms : Terms) (f : ℕ) (there : slice_get setup.exports f ≡ Some terms) (events : List (Event A)) (marks : List Bool) (start end : Row) (in_time : ArriveInTime f start end setup events (run_answers setup events marks) marks) where
    abbrev answers : List (Answer A)
    answers = run_answers setup events marks

    abbrev at_place : (k : ℕ) → Table
    at_place k = table_before k setup events marks

    abbrev interval_at : (k : ℕ) → ℕ
    interval_at k = p_interval_at f k setup events marks

    reached_at : (k : ℕ) → Reached f (p_interval_at f k setup events marks) (table_before k setup events marks)
    reached_at k = reached_before setup terms f k events marks there

    timely_before : (k : ℕ) → IsTimely (interval_at k) start.number end.number (lane f (at_place k)).waiting
    timely_before zero = tt
    timely_before (suc k) = go (onward setup events (opening_table setup) marks k) (timely_before k)
      where
        -- other rates leave no request
        renewed : (new : Table) → Steady f (at_place k) new → IsTimely (interval_at k) start.number end.number (lane f new).waiting → IsTimely (side new f).rates.p_interval start.number end.number (lane f new).waiting
        renewed new (inl same) h = subst (λ (rates : Intervals). IsTimely rates.p_interval start.number end.number (lane f new).waiting) (sym same) h
        renewed new (inr none) h = subst (λ (xs : List Row). IsTimely (side new f).rates.p_interval start.number end.number (map turn_of xs)) (sym none.1) tt

        At : Table → Type 0
        At table = IsTimely (side table f).rates.p_interval start.number end.number (lane f table).waiting

        go : Ended setup (opening_table setup) events marks k ⊎ OnwardBy setup (opening_table setup) events marks k → At (at_place k) → At (at_place (suc k))
        go (inl ended) h = subst At (sym ended.tables) h
        go (inr next) h = subst At (sym next.by.tables) (renewed (step setup (at_place k) next.event next.memory).table (rates_step setup terms (at_place k) f next.event next.memory there (reached_at k).tidy)
            (timely_step A setup f (interval_at k) start.number end.number (at_place k) next.event next.memory (reached_at k)
            (λ s t n q tag last is told low up before. in_time k s t n q tag last (next.by.stands ∙ ap Some is, next.by.answered ∙ ap Some told) low up before) h))

    record HeadAt (interval i k : ℕ) : Type 0 where
      count : ℕ
      chosen : chosen_before (is_choice_of f) k answers ≡ chosen_before (is_choice_of f) i answers + count
      head : IsHead (start.number + count) end.number (in_terms_of i k setup events marks start.p +ℤ pos (count * interval)) (lane f (at_place k)).waiting

    head_at : (interval i j : ℕ) → ReachedThrough f interval i j setup events marks → GoesFrom f i j setup events marks start end → WaitsThrough f i j setup events marks → HeadAt interval i j
    head_at interval i j through goes_from waits = along (HeadAt interval i) i j goes_from.order base onward_one
      where
        zero_plus : (n : ℕ) → n ≡ n + 0
        zero_plus n = omega arith

        nothing : (p a : ℤ) (i : ℕ) → p ≡ (p -ℤ (a -ℤ a)) +ℤ pos (0 * i)
        nothing p a i = omega (arith, ints)

        base : HeadAt interval i i
        base = record {
          count = 0;
          chosen = zero_plus (chosen_before (is_choice_of f) i answers);
          head = is_head_as start.number (start.number + 0) end.number start.p (in_terms_of i i setup events marks start.p +ℤ pos (0 * interval)) (lane f (at_place i)).waiting (zero_plus start.number) (nothing start.p (fallen_before i setup events marks) interval)
              (of_head end.number start.p (filter (waits_in f) (at_place i).rows) start goes_from.first refl);
        }

        above : (k : ℕ) → i ≤ k → i ≤ suc k
        above k le = omega (arith, le)

        upto : (k : ℕ) → k < j → suc k ≤ j
        upto k lt = omega (arith, lt)

        before : (k : ℕ) → k < j → k ≤ j
        before k lt = omega (arith, lt)

        at_least : (n c : ℕ) → n ≤ n + c
        at_least n c = omega arith

        onward_one : (k : ℕ) → i ≤ k → k < j → HeadAt interval i k → HeadAt interval i (suc k)
        onward_one k low lt h = go (onward setup events (opening_table setup) marks k)
          where
            go : Ended setup (opening_table setup) events marks k ⊎ OnwardBy setup (opening_table setup) events marks k → HeadAt interval i (suc k)
            go (inl ended) = record {
              count = h.count;
              chosen = ap (λ (xs : List (Answer A)). length (filter (is_choice_of f) xs)) ended.answers ∙ h.chosen;
              head = rw (ended.falls, ended.tables) h.head;
            }
            go (inr next) = record {
              count = h.count + one_if (is_choice_of f new.answer);
              chosen = ap (λ (xs : List (Answer A)). length (filter (is_choice_of f) xs)) next.by.answers ∙ counted (is_choice_of f) (take k answers) new.answer
                  ∙ regroup (chosen_before (is_choice_of f) k answers) (chosen_before (is_choice_of f) i answers) h.count (one_if (is_choice_of f new.answer)) h.chosen;
              head = rw (next.by.falls, next.by.tables) (subst (λ (l : Lane). IsHead (start.number + (h.count + one_if (is_choice_of f new.answer))) end.number after l.waiting) (sym moves)
                  (is_head_as (start.number + h.count + one_if (is_choice_of f new.answer)) (start.number + (h.count + one_if (is_choice_of f new.answer))) end.number _ after
                  (lane_after f interval next.event new.answer by (lane f (at_place k))).waiting (sum start.number h.count (one_if (is_choice_of f new.answer)))
                  (terms_at start.p (fallen_before k setup events marks) (fallen_before i setup events marks) by h.count (one_if (is_choice_of f new.answer)) interval)
                  (head_after A f interval start.number end.number (start.number + h.count) (in_terms_of i k setup events marks start.p +ℤ pos (h.count * interval)) (lane f (at_place k)) reached.chained timely (at_least start.number h.count) h.head
                  (at_place k) next.event new.answer (λ q. is.quiet q f)
                  (subst (λ (l : Lane). IsWaiting l.waiting) moves (subst (λ (t : Table). IsWaiting (lane f t).waiting) next.by.tables (waiting_is f (at_place (suc k)) (waits (suc k) (above k low) (upto k lt))))))));
            }
              where
                new : Outcome A
                new = step setup (at_place k) next.event next.memory

                by : ℤ
                by = fall (at_place k) next.event new.answer

                after : ℤ
                after = (start.p -ℤ ((fallen_before k setup events marks +ℤ by) -ℤ fallen_before i setup events marks)) +ℤ pos ((h.count + one_if (is_choice_of f new.answer)) * interval)

                reached : Reached f interval (at_place k)
                reached = through k low (before k lt)

                timely : IsTimely interval start.number end.number (lane f (at_place k)).waiting
                timely = subst (λ (n : ℕ). IsTimely n start.number end.number (lane f (at_place k)).waiting) reached.rate (timely_before k)

                is : Goes f (at_place k) next.event new
                is = goes setup (at_place k) f next.event next.memory reached.tidy

                moves : lane f new.table ≡ lane_after f interval next.event new.answer by (lane f (at_place k))
                moves = moves_at setup (at_place k) f interval next.event next.memory reached

                regroup : (x a c d : ℕ) → x ≡ a + c → x + d ≡ a + (c + d)
                regroup x a c d h = omega (arith, h)

                sum : (a c d : ℕ) → a + c + d ≡ a + (c + d)
                sum a c d = omega arith

    pub rises : (i j : ℕ) → GoesFrom f i j setup events marks start end → WaitsThrough f i j setup events marks → end.p ≡ in_terms_of i j setup events marks start.p +ℤ pos (all_choices f i j answers * p_interval_at f i setup events marks)
    rises i j goes_from waits =
        let at : HeadAt interval i j = head_at interval i j (reached_through setup terms f i j events marks there waits) goes_from waits in
        let last : (end.number ≡ start.number + at.count) × (start.number + at.count ≤ end.number → end.p ≡ in_terms_of i j setup events marks start.p +ℤ pos (at.count * interval)) =
        head_of (start.number + at.count) end.number (in_terms_of i j setup events marks start.p +ℤ pos (at.count * interval)) (filter (waits_in f) (at_place j).rows) end goes_from.last at.head in
        last.1 (no_less end.number (start.number + at.count) last.0)
        ∙ ap (λ (c : ℕ). in_terms_of i j setup events marks start.p +ℤ pos (c * interval)) (difference (chosen_before (is_choice_of f) j answers) (chosen_before (is_choice_of f) i answers) at.count at.chosen)
      where
        interval : ℕ
        interval = p_interval_at f i setup events marks

        no_less : (m n : ℕ) → m ≡ n → n ≤ m
        no_less m n e = omega (arith, e)

        difference : (x a c : ℕ) → x ≡ a + c → c ≡ x - a
        difference x a c e = omega (arith, e)

  pub bounded_by_ratio : (setup : Setup) (e f i j : ℕ) (one other : Terms) (events : List (Event A)) (marks : List Bool) (start end : Row) → slice_get setup.exports e ≡ Some one → slice_get setup.exports f ≡ Some other →
      0 < p_interval_at e i setup events marks → GoesFrom f i j setup events marks start end → Alongside e f i j setup events marks start → ArriveInTime f start end setup events (run_answers setup events marks) marks →
      weight_choices e i j (run_answers setup events marks) ≤ 1 + (all_choices f i j (run_answers setup events marks) * p_interval_at f i setup events marks) / p_interval_at e i setup events marks
  bounded_by_ratio setup e f i j one other events marks start end one_there other_there some goes_from waits in_time =
      subst (λ (gap : ℕ). weight_choices e i j (run_answers setup events marks) ≤ 1 + gap / p_interval_at e i setup events marks)
      (gap_is (in_terms_of i j setup events marks start.p) end.p (all_choices f i j (run_answers setup events marks) * p_interval_at f i setup events marks) (rises setup other f other_there events marks start end in_time i j goes_from waits.f_waits))
      (bounded setup e f i j (p_interval_at e i setup events marks) (p_interval_at f i setup events marks) events marks start end (reached_through setup one e i j events marks one_there waits.e_waits) (reached_through setup other f i j events marks other_there waits.f_waits) some goes_from waits)
