-- From each waiting request to the next the number rises by one and the P tag by the interval or more: so every step leaves it.
use Rattle.std.proofs.Common.{◌≡◌, ◌⊎◌, inl, inr, ◌<◌, ◌≤◌, ℕ, suc, ◌+◌, Bool, true, false, ◌==◌, List, [], ◌∷◌, ◌++◌, map, take, drop, get_or, slice_get, Option, Some, None, if◌then◌else◌, ℤ, pos, ◌-ℤ◌, ◌+ℤ◌, ◌≤ℤ◌, refl, sym, subst, ap, ◌∙◌, arith}
use Rattle.std.specs.Int.{int_max}
use Rattle.std.proofs.lemmas.Int.{ints}
use Rattle.std.proofs.lemmas.Option.{same_Some, none-some, slice_get_within}
use Rattle.nbd_commands.specs.Terms.{Terms}
use Rattle.tag_clock.specs.Intervals.{Intervals}
use Rattle.tag_clock.specs.Tags.{later}
use Rattle.tag_clock.specs.Clocks.{lowered}
use Rattle.server_table.specs.declared.event.Event.{Event}
use Rattle.server_table.specs.declared.event.Event.TheVariants.{Attach, Arrive, Dispatch, Perform, Take, Leave, Gone, Retune}
use Rattle.server_table.specs.declared.event.Answer.{Answer}
use Rattle.server_table.specs.Table.{Row, Table, Setup, side, opening_table}
use Rattle.server_table.specs.Steps.{Outcome, step, table_after}
use Rattle.server_table.specs.Shares.{is_choice_of}
use Rattle.core_laws.specs.Counts.{is_accepted}
use Rattle.core_laws.specs.Statements.{table_before}
use Rattle.core_laws.specs.Shares.{shift_at, fall}
use Rattle.lone_export.proofs.Cases.{if_one}
use Rattle.core_laws.proofs.Order.{lowered_le}
use Rattle.core_laws.proofs.Tidy.{Tidy}
use Rattle.core_laws.proofs.Chosen.{tidy_step}
use Rattle.core_laws.specs.Shares.{p_interval_at, WaitsThrough}
use Rattle.core_laws.proofs.Onward.{along, Ended, OnwardBy, onward}
use Rattle.core_laws.proofs.Runs.{opening_tidy, Steady, rates_step, rates_kept}
use Rattle.core_laws.proofs.Lanes.{Turn, Lane, lane, turn_of, turn_lowered, last_lowered, lane_lowered, lane_pushed, lane_popped, lane_after, goes}

-- of a request and those behind it
abbrev pub IsNext : ℕ → Turn → List Turn → ℕ → Option ℤ → Type 0
IsNext interval turn [] next last = (turn.number + 1 ≡ next) × (last ≡ Some turn.p)
IsNext interval turn (other ∷ turns) next last = (turn.number + 1 ≡ other.number) × ((turn.p +ℤ pos interval) ≤ℤ other.p)

abbrev pub IsChain : ℕ → List Turn → ℕ → Option ℤ → Type 0
IsChain interval [] next last = Unit {0}
IsChain interval (turn ∷ turns) next last = IsNext interval turn turns next last × IsChain interval turns next last

pub record Chained (interval : ℕ) (lane : Lane) : Type 0 where
  pub turns : IsChain interval lane.waiting lane.next lane.last

chain_lowered : (interval : ℕ) (by : ℤ) (turns : List Turn) (next : ℕ) (last : Option ℤ) → IsChain interval turns next last → IsChain interval (map (turn_lowered by) turns) next (lowered by last)
chain_lowered interval by [] next last a = tt
chain_lowered interval by (x ∷ []) next last a = ((a.0.0, ap (lowered by) a.0.1), tt)
chain_lowered interval by (x ∷ y ∷ turns) next last a = ((a.0.0, further x.p y.p by interval a.0.1), chain_lowered interval by (y ∷ turns) next last a.1)
  where
    further : (a b by : ℤ) (i : ℕ) → (a +ℤ pos i) ≤ℤ b → ((a -ℤ by) +ℤ pos i) ≤ℤ (b -ℤ by)
    further a b by i h = omega (arith, ints)

chain_all_lowered : (interval : ℕ) (by : ℤ) (turns : List Turn) (next : ℕ) (last : Option ℤ) → IsChain interval turns next last → IsChain interval (map (turn_lowered by) turns) next (last_lowered turns by last)
chain_all_lowered interval by [] next last a = tt
chain_all_lowered interval by (x ∷ turns) next last a = chain_lowered interval by (x ∷ turns) next last a

pub lane_lowered_chained : (interval : ℕ) (by : ℤ) (lane : Lane) → Chained interval lane → Chained interval (lane_lowered by lane)
lane_lowered_chained interval by lane a = record { turns = chain_all_lowered interval by lane.waiting lane.next lane.last a.turns }

chain_pushed : (interval t : ℕ) (turns : List Turn) (next : ℕ) (last : Option ℤ) → IsChain interval turns next last →
    IsChain interval (turns ++ record { number = next; p = later last interval t } ∷ []) (next + 1) (Some (later last interval t))
chain_pushed interval t [] next last a = ((refl, refl), tt)
chain_pushed interval t (x ∷ []) next last a = ((a.0.0, above x.p last interval t a.0.1), ((refl, refl), tt))
  where
    at_least : (v : ℤ) (i t : ℕ) → (v +ℤ pos i) ≤ℤ int_max (v +ℤ pos i) (pos t)
    at_least v i t = grind (arith, ints)

    above : (p : ℤ) (last : Option ℤ) (interval t : ℕ) → last ≡ Some p → (p +ℤ pos interval) ≤ℤ later last interval t
    above p None interval t h = absurd (none-some p h)
    above p (Some q) interval t h = subst (λ (x : ℤ). (x +ℤ pos interval) ≤ℤ int_max (q +ℤ pos interval) (pos t)) (same_Some q p h) (at_least q interval t)
chain_pushed interval t (x ∷ y ∷ turns) next last a = (a.0, chain_pushed interval t (y ∷ turns) next last a.1)

lane_pushed_chained : (interval t : ℕ) (lane : Lane) → Chained interval lane → Chained interval (lane_pushed interval t lane)
lane_pushed_chained interval t lane a = record { turns = chain_pushed interval t lane.waiting lane.next lane.last a.turns }

chain_popped : (interval : ℕ) (turns : List Turn) (next : ℕ) (last : Option ℤ) → IsChain interval turns next last → IsChain interval (drop 1 turns) next last
chain_popped interval [] next last a = tt
chain_popped interval (x ∷ turns) next last a = a.1

lane_popped_chained : (interval : ℕ) (lane : Lane) → Chained interval lane → Chained interval (lane_popped lane)
lane_popped_chained interval lane a = record { turns = chain_popped interval lane.waiting lane.next lane.last a.turns }

-- ---- the first tag

-- a request waits; and the tag of the first isn't below v
abbrev pub IsWaiting : List Turn → Type 0
IsWaiting [] = ⊥
IsWaiting (turn ∷ turns) = Unit {0}

abbrev pub HeadFrom : ℤ → List Turn → Type 0
HeadFrom v [] = ⊥
HeadFrom v (turn ∷ turns) = v ≤ℤ turn.p

pub head_below : (v w : ℤ) (turns : List Turn) → w ≤ℤ v → HeadFrom v turns → HeadFrom w turns
head_below v w [] le h = absurd h
head_below v w (x ∷ turns) le h = under w v x.p le h
  where
    under : (a b c : ℤ) → a ≤ℤ b → b ≤ℤ c → a ≤ℤ c
    under a b c h k = omega (arith, ints)

head_same : (v : ℤ) (turns : List Turn) → HeadFrom v turns → HeadFrom (v -ℤ pos 0) turns
head_same v turns h = head_below v (v -ℤ pos 0) turns (same v) h
  where
    same : (v : ℤ) → (v -ℤ pos 0) ≤ℤ v
    same v = omega (arith, ints)

head_lowered : (v by : ℤ) (turns : List Turn) → HeadFrom v turns → HeadFrom (v -ℤ by) (map (turn_lowered by) turns)
head_lowered v by [] h = absurd h
head_lowered v by (x ∷ turns) h = lowered_le v x.p by h

head_pushed : (v : ℤ) (turns : List Turn) (turn : Turn) → HeadFrom v turns → HeadFrom v (turns ++ turn ∷ [])
head_pushed v [] turn h = absurd h
head_pushed v (x ∷ turns) turn h = h

pub head_popped : (v : ℤ) (interval : ℕ) (turns : List Turn) (next : ℕ) (last : Option ℤ) → IsChain interval turns next last → HeadFrom v turns → IsWaiting (drop 1 turns) → HeadFrom (v +ℤ pos interval) (drop 1 turns)
head_popped v interval [] next last a h w = absurd h
head_popped v interval (x ∷ []) next last a h w = absurd w
head_popped v interval (x ∷ y ∷ turns) next last a h w = further v x.p y.p interval h a.0.1
  where
    further : (v p q : ℤ) (i : ℕ) → v ≤ℤ p → (p +ℤ pos i) ≤ℤ q → (v +ℤ pos i) ≤ℤ q
    further v p q i h k = omega (arith, ints)

module _ {A : Type 0} where
  -- as long as a request waits, the first tag doesn't fall but by the shift
  pub rise : (e interval : ℕ) (table : Table) (event : Event A) (said : Answer A) (lane : Lane) (v : ℤ) → Chained interval lane → HeadFrom v lane.waiting →
      IsWaiting (lane_after e interval event said (fall table event said) lane).waiting →
      HeadFrom (v -ℤ fall table event said) (lane_after e interval event said (fall table event said) lane).waiting
  rise e interval table (Attach f) said lane v a h w = head_same v lane.waiting h
  rise e interval table (Arrive f s t q) said lane v a h w = go (is_accepted said)
    where
      by : ℤ
      by = shift_at f t table

      low : HeadFrom (v -ℤ by) (map (turn_lowered by) lane.waiting)
      low = head_lowered v by lane.waiting h

      go : (b : Bool) → HeadFrom (v -ℤ (if b then by else pos 0)) (if b then (if f == e then lane_pushed interval t (lane_lowered (if b then by else pos 0) lane) else lane_lowered (if b then by else pos 0) lane) else lane).waiting
      go true = if_one (λ (l : Lane). HeadFrom (v -ℤ by) l.waiting) (f == e)
          (head_pushed (v -ℤ by) (map (turn_lowered by) lane.waiting) (record { number = lane.next; p = later (lane_lowered by lane).last interval t }) low) low
      go false = head_same v lane.waiting h
  rise e interval table (Dispatch t) said lane v a h w = go (is_choice_of e said) w
    where
      more : (v : ℤ) (i : ℕ) → (v -ℤ pos 0) ≤ℤ (v +ℤ pos i)
      more v i = omega (arith, ints)

      go : (b : Bool) → IsWaiting (if b then lane_popped lane else lane).waiting → HeadFrom (v -ℤ pos 0) (if b then lane_popped lane else lane).waiting
      go true w = head_below (v +ℤ pos interval) (v -ℤ pos 0) (drop 1 lane.waiting) (more v interval) (head_popped v interval lane.waiting lane.next lane.last a.turns h w)
      go false w = head_same v lane.waiting h
  rise e interval table (Perform f n) said lane v a h w = head_same v lane.waiting h
  rise e interval table (Take f s) said lane v a h w = head_same v lane.waiting h
  rise e interval table (Leave f s) said lane v a h w = head_same v lane.waiting h
  rise e interval table (Gone f s) said lane v a h w = head_same v lane.waiting h
  rise e interval table (Retune f rates) said lane v a h w = head_same v lane.waiting h

  chain_after : (e interval : ℕ) (event : Event A) (said : Answer A) (by : ℤ) (lane : Lane) → Chained interval lane → Chained interval (lane_after e interval event said by lane)
  chain_after e interval (Attach f) said by lane a = a
  chain_after e interval (Arrive f s t q) said by lane a =
      if_one (Chained interval) (is_accepted said)
      (if_one (Chained interval) (f == e) (lane_pushed_chained interval t (lane_lowered by lane) (lane_lowered_chained interval by lane a)) (lane_lowered_chained interval by lane a))
      a
  chain_after e interval (Dispatch t) said by lane a = if_one (Chained interval) (is_choice_of e said) (lane_popped_chained interval lane a) a
  chain_after e interval (Perform f n) said by lane a = a
  chain_after e interval (Take f s) said by lane a = a
  chain_after e interval (Leave f s) said by lane a = a
  chain_after e interval (Gone f s) said by lane a = a
  chain_after e interval (Retune f rates) said by lane a = a

-- ---- of a table

-- the interval of export e's weight that is in force is this one, and its requests that wait are as far apart
pub record Reached (e interval : ℕ) (table : Table) : Type 0 where
  pub tidy : Tidy e table
  pub rate : (side table e).rates.p_interval ≡ interval
  pub chained : Chained interval (lane e table)

module _ {A : Type 0} where
  -- what an event does to the requests that wait
  pub moves_at : (setup : Setup) (table : Table) (e interval : ℕ) (event : Event A) (memory : Bool) → Reached e interval table →
      lane e (step setup table event memory).table ≡ lane_after e interval event (step setup table event memory).answer (fall table event (step setup table event memory).answer) (lane e table)
  moves_at setup table e interval event memory h =
      (goes setup table e event memory h.tidy).moves
      ∙ ap (λ (i : ℕ). lane_after e i event (step setup table event memory).answer (fall table event (step setup table event memory).answer) (lane e table)) h.rate

  reached_step : (setup : Setup) (terms : Terms) (table : Table) (e : ℕ) (event : Event A) (memory : Bool) → slice_get setup.exports e ≡ Some terms →
      Reached e (side table e).rates.p_interval table → Reached e (side (step setup table event memory).table e).rates.p_interval (step setup table event memory).table
  reached_step setup terms table e event memory there h = record {
    tidy = tidy_step setup table e event memory h.tidy;
    rate = refl;
    chained = by (rates_step setup terms table e event memory there h.tidy);
  }
    where
      old : ℕ
      old = (side table e).rates.p_interval

      new : Outcome A
      new = step setup table event memory

      moved : Chained (side table e).rates.p_interval (lane e new.table)
      moved = subst (Chained old) (sym (moves_at setup table e old event memory h)) (chain_after e old event new.answer (fall table event new.answer) (lane e table) h.chained)

      by : Steady e table new.table → Chained (side new.table e).rates.p_interval (lane e new.table)
      by (inl same) = subst (λ (rates : Intervals). Chained rates.p_interval (lane e new.table)) (sym same) moved
      by (inr none) = record { turns = subst (λ (xs : List Row). IsChain (side new.table e).rates.p_interval (map turn_of xs) (side new.table e).next (side new.table e).last_p) (sym none.1) tt }

  reached_all : (setup : Setup) (terms : Terms) (e : ℕ) → slice_get setup.exports e ≡ Some terms → (events : List (Event A)) (table : Table) (marks : List Bool) →
      Reached e (side table e).rates.p_interval table → Reached e (side (table_after setup table events marks) e).rates.p_interval (table_after setup table events marks)
  reached_all setup terms e there [] table marks h = h
  reached_all setup terms e there (event ∷ events) table marks h = reached_all setup terms e there events (step setup table event (get_or marks 0 true)).table (drop 1 marks) (reached_step setup terms table e event (get_or marks 0 true) there h)

  -- at each place from i up to j
  abbrev pub ReachedThrough : ℕ → ℕ → ℕ → ℕ → Setup → List (Event A) → List Bool → Type 0
  ReachedThrough e interval i j setup events marks = (k : ℕ) → i ≤ k → k ≤ j → Reached e interval (table_before k setup events marks)

  pub reached_before : (setup : Setup) (terms : Terms) (e k : ℕ) (events : List (Event A)) (marks : List Bool) → slice_get setup.exports e ≡ Some terms → Reached e (p_interval_at e k setup events marks) (table_before k setup events marks)
  reached_before setup terms e k events marks there = reached_all setup terms e there (take k events) (opening_table setup) marks (record {
    tidy = opening_tidy setup e (slice_get_within setup.exports e terms there);
    rate = refl;
    chained = record { turns = tt };
  })

  -- while a request of e waits its interval stays
  pub interval_kept : (setup : Setup) (terms : Terms) (e i j : ℕ) (events : List (Event A)) (marks : List Bool) → slice_get setup.exports e ≡ Some terms → i ≤ j → WaitsThrough e i j setup events marks → p_interval_at e j setup events marks ≡ p_interval_at e i setup events marks
  interval_kept setup terms e i j events marks there order waits = along P i j order refl onward_one
    where
      P : ℕ → Type 0
      P k = p_interval_at e k setup events marks ≡ p_interval_at e i setup events marks

      upto : (k : ℕ) → k < j → k ≤ j
      upto k lt = omega (arith, lt)

      onward_one : (k : ℕ) → i ≤ k → k < j → P k → P (suc k)
      onward_one k low lt h = go (onward setup events (opening_table setup) marks k)
        where
          interval_of : Table → ℕ
          interval_of table = (side table e).rates.p_interval

          go : Ended setup (opening_table setup) events marks k ⊎ OnwardBy setup (opening_table setup) events marks k → P (suc k)
          go (inl ended) = ap interval_of ended.tables ∙ h
          go (inr next) =
              ap interval_of next.by.tables
              ∙ ap (λ (rates : Intervals). rates.p_interval) (rates_kept setup terms (table_before k setup events marks) e next.event next.memory there (reached_before setup terms e k events marks there).tidy (waits k low (upto k lt)))
              ∙ h

  pub reached_through : (setup : Setup) (terms : Terms) (e i j : ℕ) (events : List (Event A)) (marks : List Bool) → slice_get setup.exports e ≡ Some terms → WaitsThrough e i j setup events marks → ReachedThrough e (p_interval_at e i setup events marks) i j setup events marks
  reached_through setup terms e i j events marks there waits = λ k low up.
      subst (λ (n : ℕ). Reached e n (table_before k setup events marks)) (interval_kept setup terms e i k events marks there low (λ m from to. waits m from (trans m k to up))) (reached_before setup terms e k events marks there)
    where
      trans : (m k : ℕ) → m ≤ k → k ≤ j → m ≤ j
      trans m k h l = omega (arith, h, l)
