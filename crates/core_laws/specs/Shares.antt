-- Two exports that wait side by side, from one place of a run on before a later one.
use Rattle.std.specs.Prelude.{◌≡◌, ◌<◌, ◌≤◌, ◌+◌, ◌-◌, ◌*◌, ◌/◌, ◌≤ℤ◌, ◌+ℤ◌, ◌-ℤ◌, max, ℕ, Bool, true, false, not, if◌then◌else◌, List, [], ◌∷◌, length, filter, take, drop, get_or, slice_get, Option, Some, ℤ, pos}
use Rattle.std.specs.Int.{int_gap}
use Rattle.nbd_base.specs.Words.{when_some}
use Rattle.nbd_wire.specs.Grammar.{RequestMessage}
use Rattle.nbd_commands.specs.Terms.{Terms}
use Rattle.tag_clock.specs.declared.Phase.TheVariants.{Weight}
use Rattle.server_table.specs.declared.event.Event.{Event}
use Rattle.server_table.specs.declared.event.Event.TheVariants.{Arrive, Dispatch}
use Rattle.server_table.specs.declared.event.Answer.{Answer}
use Rattle.server_table.specs.declared.event.Answer.TheVariants.{Accepted, Picked}
use Rattle.server_table.specs.Table.{Row, Table, Setup, side, waits_in, is_idle, foremost, p_key, opening_table}
use Rattle.server_table.specs.Steps.{step}
use Rattle.server_table.specs.Shares.{is_choice_of}
use Rattle.core_laws.specs.Counts.{is_choice_in, is_accepted}
use Rattle.core_laws.specs.Statements.{StandsAt, table_before}

-- the first request of export e that waits
abbrev pub first_of : ℕ → Table → Option Row
first_of e table = slice_get (filter (waits_in e) table.rows) 0

-- what the shift before an arrival at t to export e takes off the P tags that wait
abbrev pub shift_at : ℕ → ℕ → Table → ℤ
shift_at e t table =
    if is_idle e table.rows
    then when_some (foremost p_key (filter (λ row. not row.out) table.rows)) (λ first. first.p -ℤ pos t) (pos 0)
    else pos 0

module _ {A : Type 0} where
  -- the interval of export e's weight in force at place k. While a request of it waits that is the same
  abbrev pub p_interval_at : ℕ → ℕ → Setup → List (Event A) → List Bool → ℕ
  p_interval_at e k setup events marks = (side (table_before k setup events marks) e).rates.p_interval

  -- what an event takes off them, and what all events of a list do, from a table on
  abbrev pub fall : Table → Event A → Answer A → ℤ
  fall table (Arrive e s t q) said = if is_accepted said then shift_at e t table else pos 0
  fall table event said = pos 0

  abbrev pub fallen : Setup → Table → List (Event A) → List Bool → ℤ
  fallen setup table [] marks = pos 0
  fallen setup table (event ∷ events) marks =
      fall table event (step setup table event (get_or marks 0 true)).answer +ℤ fallen setup (step setup table event (get_or marks 0 true)).table events (drop 1 marks)

  -- what the events before place k of a run do
  abbrev pub fallen_before : ℕ → Setup → List (Event A) → List Bool → ℤ
  fallen_before k setup events marks = fallen setup (opening_table setup) (take k events) marks

  -- a P tag of place i in the terms of place j: less what the events from i on before j take off the tags that wait
  abbrev pub in_terms_of : ℕ → ℕ → Setup → List (Event A) → List Bool → ℤ → ℤ
  in_terms_of i j setup events marks p = p -ℤ (fallen_before j setup events marks -ℤ fallen_before i setup events marks)

  -- how often export e is chosen from place i on before place j: by weight, and by either phase
  abbrev pub chosen_before : (Answer A → Bool) → ℕ → List (Answer A) → ℕ
  chosen_before counts k answers = length (filter counts (take k answers))

  abbrev pub weight_choices : ℕ → ℕ → ℕ → List (Answer A) → ℕ
  weight_choices e i j answers = chosen_before (is_choice_in e Weight) j answers - chosen_before (is_choice_in e Weight) i answers

  abbrev pub all_choices : ℕ → ℕ → ℕ → List (Answer A) → ℕ
  all_choices e i j answers = chosen_before (is_choice_of e) j answers - chosen_before (is_choice_of e) i answers

  -- a request of export e waits before each event from place i on, and at place j
  abbrev pub WaitsThrough : ℕ → ℕ → ℕ → Setup → List (Event A) → List Bool → Type 0
  WaitsThrough e i j setup events marks = (k : ℕ) → i ≤ k → k ≤ j → is_idle e (table_before k setup events marks).rows ≡ false

  -- at each dispatch from place i on before place j the limit tag of its first request isn't above the greatest moment of
  -- a dispatch, that dispatch's own included
  abbrev pub IsDueThrough : ℕ → ℕ → ℕ → Setup → List (Event A) → List Bool → Type 0
  IsDueThrough e i j setup events marks = (k t : ℕ) (row : Row) → i ≤ k → k < j → slice_get events k ≡ Some (Dispatch t) →
      first_of e (table_before k setup events marks) ≡ Some row → row.l ≤ℤ pos (max (table_before k setup events marks).now t)

  -- the first request of export f is `start` at place i and `end` at place j
  pub record GoesFrom (f i j : ℕ) (setup : Setup) (events : List (Event A)) (marks : List Bool) (start end : Row) : Type 0 where
    pub order : i ≤ j
    pub first : first_of f (table_before i setup events marks) ≡ Some start
    pub last : first_of f (table_before j setup events marks) ≡ Some end

  -- exports e and f wait side by side from place i to place j: f is due at each dispatch between, and at place i the tag of
  -- e's first request isn't below that of f's
  pub record WaitBeside (e f i j : ℕ) (setup : Setup) (events : List (Event A)) (marks : List Bool) (start : Row) : Type 0 where
    pub f_waits : WaitsThrough f i j setup events marks
    pub f_due : IsDueThrough f i j setup events marks
    pub e_waits : WaitsThrough e i j setup events marks
    pub not_below : (row : Row) → first_of e (table_before i setup events marks) ≡ Some row → start.p ≤ℤ row.p

  -- each request of export f behind `start`, up to `end`, arrived at a moment that wasn't above f's last P tag and an
  -- interval more
  abbrev pub ArriveInTime : ℕ → Row → Row → Setup → List (Event A) → List (Answer A) → List Bool → Type 0
  ArriveInTime f start end setup events answers marks = (k s t n : ℕ) (q : RequestMessage) (tag last : ℤ) →
      StandsAt k events answers (Arrive f s t q) (Accepted n tag) → start.number < n → n ≤ end.number →
      (side (table_before k setup events marks) f).last_p ≡ Some last → pos t ≤ℤ (last +ℤ pos (p_interval_at f k setup events marks))

  -- ---- the law

  -- a choice by weight is of the first request of its export, and its P tag isn't above that of any export's first request
  -- that is due
  abbrev pub WeightsTakeTheLeast : Setup → List (Event A) → List (Answer A) → List Bool → Type 0
  WeightsTakeTheLeast setup events answers marks = (k t e f n : ℕ) (terms : Terms) (chosen other : Row) →
      StandsAt k events answers (Dispatch t) (Picked f n Weight) → slice_get setup.exports f ≡ Some terms →
      first_of f (table_before k setup events marks) ≡ Some chosen → first_of e (table_before k setup events marks) ≡ Some other →
      other.l ≤ℤ pos (max (table_before k setup events marks).now t) → (chosen.number ≡ n) × (chosen.p ≤ℤ other.p)

  -- between the two places e is chosen by weight once at most, and once more for each interval of its weight by which the
  -- tag of f's first request rises
  abbrev pub SharesByWeight : Setup → List (Event A) → List (Answer A) → List Bool → Type 0
  SharesByWeight setup events answers marks = (e f i j : ℕ) (one other : Terms) (start end : Row) →
      slice_get setup.exports e ≡ Some one → slice_get setup.exports f ≡ Some other → 0 < p_interval_at e i setup events marks →
      GoesFrom f i j setup events marks start end → WaitBeside e f i j setup events marks start →
      weight_choices e i j answers ≤ 1 + int_gap (in_terms_of i j setup events marks start.p) end.p / p_interval_at e i setup events marks

  -- where f's requests arrive in time, its tag rises by an interval for each choice of f
  abbrev pub RisesByItsChoices : Setup → List (Event A) → List (Answer A) → List Bool → Type 0
  RisesByItsChoices setup events answers marks = (f i j : ℕ) (terms : Terms) (start end : Row) →
      slice_get setup.exports f ≡ Some terms → GoesFrom f i j setup events marks start end → WaitsThrough f i j setup events marks →
      ArriveInTime f start end setup events answers marks →
      end.p ≡ in_terms_of i j setup events marks start.p +ℤ pos (all_choices f i j answers * p_interval_at f i setup events marks)

  -- and so for each choice of f there are no more of e by weight than the ratio of their weights, and one in all
  abbrev pub SharesByRatio : Setup → List (Event A) → List (Answer A) → List Bool → Type 0
  SharesByRatio setup events answers marks = (e f i j : ℕ) (one other : Terms) (start end : Row) →
      slice_get setup.exports e ≡ Some one → slice_get setup.exports f ≡ Some other → 0 < p_interval_at e i setup events marks →
      GoesFrom f i j setup events marks start end → WaitBeside e f i j setup events marks start →
      ArriveInTime f start end setup events answers marks →
      weight_choices e i j answers ≤ 1 + (all_choices f i j answers * p_interval_at f i setup events marks) / p_interval_at e i setup events marks
