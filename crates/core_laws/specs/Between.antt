-- From a choice of an export to a later choice of it: how often another that waits all that time is chosen by weight between.
use Rattle.std.specs.Prelude.{◌≡◌, ◌<◌, ◌≤◌, ◌+◌, ◌*◌, ◌/◌, ◌≤ℤ◌, ℕ, Bool, List, filter, slice_get, Some}
use Rattle.std.specs.Int.{int_gap}
use Rattle.nbd_commands.specs.Terms.{Terms}
use Rattle.tag_clock.specs.declared.Phase.{Phase}
use Rattle.server_table.specs.declared.event.Event.{Event}
use Rattle.server_table.specs.declared.event.Event.TheVariants.{Dispatch}
use Rattle.server_table.specs.declared.event.Answer.{Answer}
use Rattle.server_table.specs.declared.event.Answer.TheVariants.{Picked}
use Rattle.server_table.specs.Table.{Row, Setup, waits_in}
use Rattle.core_laws.specs.Statements.{StandsAt, table_before}
use Rattle.core_laws.specs.Shares.{p_interval_at, first_of, in_terms_of, weight_choices, all_choices, WaitsThrough, IsDueThrough, ArriveInTime}

module _ {A : Type 0} where
  -- at place k a dispatch chooses export f's request `row`, which waits until then
  pub record IsChosenAt (f k : ℕ) (setup : Setup) (events : List (Event A)) (answers : List (Answer A)) (marks : List Bool) (row : Row) : Type 0 where
    pub moment : ℕ
    pub phase : Phase
    pub stands : StandsAt k events answers (Dispatch moment) (Picked f row.number phase)
    pub place : ℕ
    pub waits : slice_get (filter (waits_in f) (table_before k setup events marks).rows) place ≡ Some row

  -- export f's request `start` is chosen at place i, and its request `end` at the later place j
  pub record IsChosenTwice (f i j : ℕ) (setup : Setup) (events : List (Event A)) (answers : List (Answer A)) (marks : List Bool) (start end : Row) : Type 0 where
    pub later : i < j
    pub first : IsChosenAt f i setup events answers marks start
    pub second : IsChosenAt f j setup events answers marks end

  -- between the two f waits, and is due at each dispatch; export e waits throughout, and at the first its tag isn't below
  -- that of `start`
  pub record WaitBetween (e f i j : ℕ) (setup : Setup) (events : List (Event A)) (marks : List Bool) (start : Row) : Type 0 where
    pub f_waits : WaitsThrough f (i + 1) j setup events marks
    pub f_due : IsDueThrough f (i + 1) j setup events marks
    pub e_waits : WaitsThrough e i j setup events marks
    pub not_below : (row : Row) → first_of e (table_before i setup events marks) ≡ Some row → start.p ≤ℤ row.p

  -- ---- the law in its plain form

  -- between the two choices of f, e is chosen by weight once at most, and once more for each interval of its weight from the
  -- tag of the first to that of the second, both in the terms of the second
  abbrev pub SharesBetween : Setup → List (Event A) → List (Answer A) → List Bool → Type 0
  SharesBetween setup events answers marks = (e f i j : ℕ) (one other : Terms) (start end : Row) →
      slice_get setup.exports e ≡ Some one → slice_get setup.exports f ≡ Some other → 0 < p_interval_at e i setup events marks →
      IsChosenTwice f i j setup events answers marks start end → WaitBetween e f i j setup events marks start →
      weight_choices e i j answers ≤ 1 + int_gap (in_terms_of i j setup events marks start.p) end.p / p_interval_at e i setup events marks

  -- where f's requests arrive in time that is for each choice of f, one of the two counted, no more than the ratio of their
  -- weights, and one in all
  abbrev pub RatioBetween : Setup → List (Event A) → List (Answer A) → List Bool → Type 0
  RatioBetween setup events answers marks = (e f i j : ℕ) (one other : Terms) (start end : Row) →
      slice_get setup.exports e ≡ Some one → slice_get setup.exports f ≡ Some other → 0 < p_interval_at e i setup events marks →
      IsChosenTwice f i j setup events answers marks start end → WaitBetween e f i j setup events marks start →
      ArriveInTime f start end setup events answers marks →
      weight_choices e i j answers ≤ 1 + (all_choices f i j answers * p_interval_at f i setup events marks) / p_interval_at e i setup events marks
