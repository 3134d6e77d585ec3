-- The counts of choices over whole runs, by the accepted arrivals and by the rates at the start.
use Rattle.std.proofs.Common.{◌≡◌, ℕ, ◌+◌, ◌-◌, ◌/◌, ◌<◌, ◌≤◌, Bool, true, false, ◌&&◌, eqb, List, [], ◌∷◌, ◌++◌, filter, get_or, drop, slice_get, Option, Some, None, is_some, option_map, option_to_list, unwrap_or, if◌then◌else◌, MatchOption, ℤ, refl, sym, subst, ap, ◌∙◌, arith}
use Rattle.std.specs.List.{AllByRecursion}
use Rattle.std.proofs.lemmas.Option.{same_Some, none-some, slice_get_within}
use Rattle.nbd_base.specs.Words.{when_some}
use Rattle.nbd_commands.specs.Terms.{Terms}
use Rattle.tag_clock.specs.LimitTags.{Arrival}
use Rattle.tag_clock.specs.declared.Phase.{Phase}
use Rattle.tag_clock.specs.declared.Phase.TheVariants.{Reservation, Weight}
use Rattle.lone_export.specs.Alone.{Alone, own_step}
use Rattle.lone_export.specs.LimitTags.{tag_of, arrived, interval_after, accepted_arrival, accepted_arrivals}
use Rattle.lone_export.specs.declared.step.Step.{Step}
use Rattle.lone_export.specs.declared.step.Step.TheVariants as own
use Rattle.lone_export.specs.declared.step.StepAnswer.{StepAnswer}
use Rattle.lone_export.specs.declared.step.StepAnswer.TheVariants as alone
use Rattle.lone_export.proofs.Cases.{true_false}
use Rattle.lone_export.proofs.Tags.{interval_of_step}
use Rattle.server_table.specs.declared.event.Event.{Event}
use Rattle.server_table.specs.declared.event.Event.TheVariants.{Attach, Arrive, Dispatch, Perform, Take, Leave, Gone, Retune}
use Rattle.server_table.specs.declared.event.Answer.{Answer}
use Rattle.server_table.specs.declared.event.Answer.TheVariants as said
use Rattle.server_table.specs.Table.{Side, Table, Setup, side, part, opening_side, opening_table}
use Rattle.server_table.specs.Steps.{Outcome, step, answers_of, run_answers}
use Rattle.server_table.specs.Shares.{as_alone, own_of, own as own_in, told as told_in, is_made, is_choice_of, mark_of}
use Rattle.core_laws.specs.Runs.{Run, HasExport, answers_in}
use Rattle.core_laws.specs.Counts.{is_accepted, choices, accepted_at, first_accepted, is_retune_of}
use Rattle.core_laws.specs.Statements.{arrivals_of}
use Rattle.core_laws.proofs.Named.{Agrees}
use Rattle.core_laws.proofs.Tidy.{Tidy}
use Rattle.core_laws.proofs.Chosen.{tidy_step}
use Rattle.core_laws.proofs.Runs.{agrees, opening_tidy, opening_side_at}
use Rattle.core_laws.proofs.Pace.{Strides, Reserves}
use Rattle.core_laws.proofs.Counts.{Within, Virgin, interval_of, LimitHolds, LimitHoldsLater, AreKept, counted, none_before, at_most}

-- the interval in force is at least m
abbrev IsLong : ℕ → Arrival → Type 0
IsLong m one = m ≤ one.interval

split : (m : ℕ) (o : Option Arrival) (rest : List Arrival) → AllByRecursion (IsLong m) (option_to_list o ++ rest) → ((one : Arrival) → o ≡ Some one → m ≤ one.interval) × AllByRecursion (IsLong m) rest
split m None rest all = (λ one is. absurd (none-some one is), all)
split m (Some x) rest all = (λ one is. subst (IsLong m) (same_Some x one is) all.0, all.1)

some_moment : (u : ℕ) (o : Option Arrival) → Some u ≡ option_map (λ (a : Arrival). a.moment) o → (one : Arrival) × (o ≡ Some one)
some_moment u None is = absurd (cc)
some_moment u (Some one) is = (one, refl)

untold : (o : Option ℤ) → None ≡ option_map (λ (a : Arrival). a.moment) (when_some o (λ tag. None) None)
untold None = refl
untold (Some tag) = refl

at_moment : (t interval : ℕ) (o : Option ℤ) (b : Bool) → is_some o ≡ b → (if b then Some t else None) ≡ option_map (λ (a : Arrival). a.moment) (when_some o (λ tag. Some (record { moment = t; interval = interval })) None)
at_moment t interval None true is = true_false (sym is)
at_moment t interval None false is = refl
at_moment t interval (Some tag) true is = refl
at_moment t interval (Some tag) false is = true_false is

of_interval : (interval : ℕ) (o : Option ℤ) (arrival : Option ℕ) (one : Arrival) → when_some o (λ tag. option_map (λ t. record { moment = t; interval = interval }) arrival) None ≡ Some one → one.interval ≡ interval
of_interval interval None arrival one is = absurd (none-some one is)
of_interval interval (Some tag) None one is = absurd (none-some one is)
of_interval interval (Some tag) (Some t) one is = ap (λ (a : Arrival). a.interval) (sym (same_Some (record { moment = t; interval = interval }) one is))

-- the rates at the start, and no limit
abbrev at_start : Terms → Phase → Strides
at_start terms phase = record { phase = phase; limit = 0; reservation = terms.rates.r_interval }

module _ {A : Type 0} where
  picked : (b : Bool) (x one : Step A) → (if b then Some x else None) ≡ Some one → x ≡ one
  picked true x one is = same_Some x one is
  picked false x one is = absurd (none-some one is)

  tag_told : (answer : Answer A) (told : StepAnswer A) → as_alone answer ≡ Some told → is_some (tag_of told) ≡ is_accepted answer
  tag_told (said.Session n) told is = ap (λ (a : StepAnswer A). is_some (tag_of a)) (sym (same_Some (alone.Session n) told is))
  tag_told (said.Accepted n tag) told is = ap (λ (a : StepAnswer A). is_some (tag_of a)) (sym (same_Some (alone.Accepted n tag) told is))
  tag_told (said.Answered error) told is = ap (λ (a : StepAnswer A). is_some (tag_of a)) (sym (same_Some (alone.Answered error) told is))
  tag_told (said.Picked f n phase) told is = ap (λ (a : StepAnswer A). is_some (tag_of a)) (sym (same_Some (alone.Picked n) told is))
  tag_told said.Nothing told is = ap (λ (a : StepAnswer A). is_some (tag_of a)) (sym (same_Some alone.Nothing told is))
  tag_told (said.Performed memory) told is = ap (λ (a : StepAnswer A). is_some (tag_of a)) (sym (same_Some (alone.Performed memory) told is))
  tag_told (said.Reply reply) told is = ap (λ (a : StepAnswer A). is_some (tag_of a)) (sym (same_Some (alone.Reply reply) told is))
  tag_told said.Empty told is = ap (λ (a : StepAnswer A). is_some (tag_of a)) (sym (same_Some alone.Empty told is))
  tag_told said.End told is = ap (λ (a : StepAnswer A). is_some (tag_of a)) (sym (same_Some alone.End told is))
  tag_told said.Left told is = ap (λ (a : StepAnswer A). is_some (tag_of a)) (sym (same_Some alone.Left told is))
  tag_told said.Dropped told is = ap (λ (a : StepAnswer A). is_some (tag_of a)) (sym (same_Some alone.Dropped told is))
  tag_told said.NotOpen told is = ap (λ (a : StepAnswer A). is_some (tag_of a)) (sym (same_Some alone.NotOpen told is))
  tag_told said.Worn told is = ap (λ (a : StepAnswer A). is_some (tag_of a)) (sym (same_Some alone.Worn told is))
  tag_told said.Full told is = ap (λ (a : StepAnswer A). is_some (tag_of a)) (sym (same_Some alone.Full told is))
  tag_told said.Hold told is = ap (λ (a : StepAnswer A). is_some (tag_of a)) (sym (same_Some alone.Hold told is))
  tag_told said.NotOut told is = ap (λ (a : StepAnswer A). is_some (tag_of a)) (sym (same_Some alone.NotOut told is))
  tag_told said.Retuned told is = ap (λ (a : StepAnswer A). is_some (tag_of a)) (sym (same_Some alone.Retuned told is))
  tag_told said.Waiting told is = ap (λ (a : StepAnswer A). is_some (tag_of a)) (sym (same_Some alone.Waiting told is))
  tag_told said.NoExport told is = absurd (none-some told is)
  tag_told said.NoMemory told is = absurd (none-some told is)

  -- an accepted arrival of e is the arrival of its own step
  arrival_is : (e interval : ℕ) (event : Event A) (answer : Answer A) (one : Step A) (told : StepAnswer A) → own_of e event answer ≡ Some one → as_alone answer ≡ Some told → accepted_at e event answer ≡ option_map (λ (a : Arrival). a.moment) (accepted_arrival interval one told)
  arrival_is e interval (Arrive f s t q) answer one told is alike = by (eqb f e) refl is
    where
      by : (b : Bool) → eqb f e ≡ b → (if b && is_made answer then Some (own.Arrive s t q) else None) ≡ Some one → (if eqb f e && is_accepted answer then Some t else None) ≡ option_map (λ (a : Arrival). a.moment) (accepted_arrival interval one told)
      by true here is = rw here (subst (λ (x : Step A). (if is_accepted answer then Some t else None) ≡ option_map (λ (a : Arrival). a.moment) (accepted_arrival interval x told)) (picked (is_made answer) (own.Arrive s t q) one is) (at_moment t interval (tag_of told) (is_accepted answer) (tag_told answer told alike)))
      by false here is = absurd (none-some one is)
  arrival_is e interval (Attach f) answer one told is alike = subst (λ (s : Step A). None ≡ option_map (λ (a : Arrival). a.moment) (accepted_arrival interval s told)) (picked (eqb f e && is_made answer) own.Attach one is) (untold (tag_of told))
  arrival_is e interval (Dispatch t) answer one told is alike = subst (λ (s : Step A). None ≡ option_map (λ (a : Arrival). a.moment) (accepted_arrival interval s told)) (picked (is_choice_of e answer) own.Pick one is) (untold (tag_of told))
  arrival_is e interval (Perform f n) answer one told is alike = subst (λ (s : Step A). None ≡ option_map (λ (a : Arrival). a.moment) (accepted_arrival interval s told)) (picked (eqb f e && is_made answer) (own.Perform n (mark_of answer)) one is) (untold (tag_of told))
  arrival_is e interval (Take f s) answer one told is alike = subst (λ (s : Step A). None ≡ option_map (λ (a : Arrival). a.moment) (accepted_arrival interval s told)) (picked (eqb f e && is_made answer) (own.Take s) one is) (untold (tag_of told))
  arrival_is e interval (Leave f s) answer one told is alike = subst (λ (s : Step A). None ≡ option_map (λ (a : Arrival). a.moment) (accepted_arrival interval s told)) (picked (eqb f e && is_made answer) (own.Leave s) one is) (untold (tag_of told))
  arrival_is e interval (Gone f s) answer one told is alike = subst (λ (s : Step A). None ≡ option_map (λ (a : Arrival). a.moment) (accepted_arrival interval s told)) (picked (eqb f e && is_made answer) (own.Gone s) one is) (untold (tag_of told))
  arrival_is e interval (Retune f rates) answer one told is alike = subst (λ (s : Step A). None ≡ option_map (λ (a : Arrival). a.moment) (accepted_arrival interval s told)) (picked (eqb f e && is_made answer) (own.Retune rates) one is) (untold (tag_of told))

  made_only : (answer : Answer A) → is_made answer ≡ false → is_accepted answer ≡ false
  made_only (said.Session n) h = true_false h
  made_only (said.Accepted n tag) h = true_false h
  made_only (said.Answered error) h = true_false h
  made_only (said.Picked f n phase) h = true_false h
  made_only said.Nothing h = true_false h
  made_only (said.Performed memory) h = true_false h
  made_only (said.Reply reply) h = true_false h
  made_only said.Empty h = true_false h
  made_only said.End h = true_false h
  made_only said.Left h = true_false h
  made_only said.Dropped h = true_false h
  made_only said.NotOpen h = true_false h
  made_only said.Worn h = true_false h
  made_only said.Full h = true_false h
  made_only said.Hold h = true_false h
  made_only said.NotOut h = true_false h
  made_only said.Retuned h = true_false h
  made_only said.Waiting h = true_false h
  made_only said.NoExport h = true_false h
  made_only said.NoMemory h = refl

  accepted_own : (e : ℕ) (event : Event A) (answer : Answer A) → own_of e event answer ≡ None → accepted_at e event answer ≡ None
  accepted_own e (Arrive f s t q) answer is = by (eqb f e) (is_made answer) refl refl is
    where
      by : (b c : Bool) → eqb f e ≡ b → is_made answer ≡ c → ◌≡◌ {A = Option (Step A)} (if b && c then Some (own.Arrive s t q) else None) None → (if eqb f e && is_accepted answer then Some t else None) ≡ None
      by true true here made is = absurd (none-some _ (sym is))
      by true false here made is = rw (here, made_only answer made) refl
      by false c here made is = rw here refl
  accepted_own e (Attach f) answer is = refl
  accepted_own e (Dispatch t) answer is = refl
  accepted_own e (Perform f n) answer is = refl
  accepted_own e (Take f s) answer is = refl
  accepted_own e (Leave f s) answer is = refl
  accepted_own e (Gone f s) answer is = refl
  accepted_own e (Retune f rates) answer is = refl

  -- where each accepted arrival has an interval of m at least
  limit_held : (setup : Setup) (terms : Terms) (e m : ℕ) → slice_get setup.exports e ≡ Some terms → (events : List (Event A)) (table : Table) (marks : List Bool) (interval : ℕ) → Tidy e table → (side table e).rates.l_interval ≡ interval →
      AllByRecursion (IsLong m) (accepted_arrivals interval (own_in e events (answers_of setup table events marks)) (told_in e events (answers_of setup table events marks))) → LimitHolds m e setup table events marks
  limit_held setup terms e m there [] table marks interval tidy same all = tt
  limit_held setup terms e m there (event ∷ events) table marks interval tidy same all =
      go (own_of e event new.answer) refl (agrees setup terms table e event (get_or marks 0 true) there tidy)
      (λ i s a. limit_held setup terms e m there events new.table (drop 1 marks) i (tidy_step setup table e event (get_or marks 0 true) tidy) s a)
    where
      new : Outcome A
      new = step setup table event (get_or marks 0 true)

      Rest : ℕ → Type 0
      Rest i = AllByRecursion (IsLong m) (accepted_arrivals i (own_in e events (answers_of setup new.table events (drop 1 marks))) (told_in e events (answers_of setup new.table events (drop 1 marks))))

      go : (o : Option (Step A)) → own_of e event new.answer ≡ o → Agrees terms e table event new → ((i : ℕ) → (side new.table e).rates.l_interval ≡ i → Rest i → LimitHolds m e setup new.table events (drop 1 marks)) → LimitHolds m e setup table (event ∷ events) marks
      go None is agreed ih =
          let kept : part e new.table ≡ part e table = rw is at agreed in
          let rest : Rest interval = rw is at all in
          (λ u at. absurd (none-some u (sym (accepted_own e event new.answer is) ∙ at)), ih interval (ap (λ (a : Alone). a.rates.l_interval) kept ∙ same) rest)
      go (Some one) is agreed ih =
          let both : (part e new.table ≡ (own_step terms (part e table) one).state) × (as_alone new.answer ≡ Some (own_step terms (part e table) one).answer) = rw is at agreed in
          let told : StepAnswer A = (own_step terms (part e table) one).answer in
          let parts = split m (accepted_arrival interval one told) (accepted_arrivals (interval_after one told interval) (own_in e events (answers_of setup new.table events (drop 1 marks))) (told_in e events (answers_of setup new.table events (drop 1 marks)))) (rw (is, both.1) at all) in (
            λ u at.
                let arrival = some_moment u (accepted_arrival interval one told) (sym at ∙ arrival_is e interval event new.answer one told is both.1) in
                subst (λ (n : ℕ). m ≤ n) (of_interval interval (tag_of told) (arrived one) arrival.0 arrival.1 ∙ sym same) (parts.0 arrival.0 arrival.1),
            ih (interval_after one told interval) (ap (λ (a : Alone). a.rates.l_interval) both.0 ∙ interval_of_step terms (part e table) one ∙ ap (λ (n : ℕ). interval_after one told n) same) parts.1,
          )

  -- behind the first one
  limit_held_later : (setup : Setup) (terms : Terms) (e m : ℕ) → slice_get setup.exports e ≡ Some terms → (events : List (Event A)) (table : Table) (marks : List Bool) (interval : ℕ) → Tidy e table → (side table e).rates.l_interval ≡ interval →
      AllByRecursion (IsLong m) (drop 1 (accepted_arrivals interval (own_in e events (answers_of setup table events marks)) (told_in e events (answers_of setup table events marks)))) → LimitHoldsLater m e setup table events marks
  limit_held_later setup terms e m there [] table marks interval tidy same all = tt
  limit_held_later setup terms e m there (event ∷ events) table marks interval tidy same all =
      go (own_of e event new.answer) refl (agrees setup terms table e event (get_or marks 0 true) there tidy)
      (λ i s a. limit_held_later setup terms e m there events new.table (drop 1 marks) i tidy' s a) (λ i s a. limit_held setup terms e m there events new.table (drop 1 marks) i tidy' s a)
    where
      new : Outcome A
      new = step setup table event (get_or marks 0 true)

      tidy' : Tidy e new.table
      tidy' = tidy_step setup table e event (get_or marks 0 true) tidy

      Arrivals : ℕ → List Arrival
      Arrivals i = accepted_arrivals i (own_in e events (answers_of setup new.table events (drop 1 marks))) (told_in e events (answers_of setup new.table events (drop 1 marks)))

      Goal : Option ℕ → Type 0
      Goal o = MatchOption o (LimitHoldsLater m e setup new.table events (drop 1 marks)) (λ u. LimitHolds m e setup new.table events (drop 1 marks))

      go : (o : Option (Step A)) → own_of e event new.answer ≡ o → Agrees terms e table event new →
          ((i : ℕ) → (side new.table e).rates.l_interval ≡ i → AllByRecursion (IsLong m) (drop 1 (Arrivals i)) → LimitHoldsLater m e setup new.table events (drop 1 marks)) →
          ((i : ℕ) → (side new.table e).rates.l_interval ≡ i → AllByRecursion (IsLong m) (Arrivals i) → LimitHolds m e setup new.table events (drop 1 marks)) →
          Goal (accepted_at e event new.answer)
      go None is agreed later held =
          let kept : part e new.table ≡ part e table = rw is at agreed in
          let rest : AllByRecursion (IsLong m) (drop 1 (Arrivals interval)) = rw is at all in
          subst Goal (sym (accepted_own e event new.answer is)) (later interval (ap (λ (a : Alone). a.rates.l_interval) kept ∙ same) rest)
      go (Some one) is agreed later held =
          let both : (part e new.table ≡ (own_step terms (part e table) one).state) × (as_alone new.answer ≡ Some (own_step terms (part e table) one).answer) = rw is at agreed in
          let told : StepAnswer A = (own_step terms (part e table) one).answer in
          subst Goal (sym (arrival_is e interval event new.answer one told is both.1))
          (by (accepted_arrival interval one told) (interval_after one told interval)
          (ap (λ (a : Alone). a.rates.l_interval) both.0 ∙ interval_of_step terms (part e table) one ∙ ap (λ (n : ℕ). interval_after one told n) same)
          (rw (is, both.1) at all))
        where
          by : (o : Option Arrival) (i : ℕ) → (side new.table e).rates.l_interval ≡ i → AllByRecursion (IsLong m) (drop 1 (option_to_list o ++ Arrivals i)) → Goal (option_map (λ (a : Arrival). a.moment) o)
          by None i s rest = later i s rest
          by (Some first) i s rest = held i s rest

  -- an interval of 0 is none
  any_limit : (setup : Setup) (e : ℕ) (events : List (Event A)) (table : Table) (marks : List Bool) → LimitHolds 0 e setup table events marks
  any_limit setup e [] table marks = tt
  any_limit setup e (event ∷ events) table marks = (λ u is. omega arith, any_limit setup e events (step setup table event (get_or marks 0 true)).table (drop 1 marks))

  any_limit_later : (setup : Setup) (e : ℕ) (events : List (Event A)) (table : Table) (marks : List Bool) → LimitHoldsLater 0 e setup table events marks
  any_limit_later setup e [] table marks = tt
  any_limit_later setup e (event ∷ events) table marks =
      go (accepted_at e event (step setup table event (get_or marks 0 true)).answer) (any_limit_later setup e events next (drop 1 marks)) (any_limit setup e events next (drop 1 marks))
    where
      next : Table
      next = (step setup table event (get_or marks 0 true)).table

      go : {X Y : Type 0} (o : Option ℕ) → X → Y → MatchOption o X (λ u. Y)
      go None x y = x
      go (Some u) x y = y

  all_kept : (e : ℕ) (events : List (Event A)) → filter (is_retune_of e) events ≡ [] → AreKept e events
  all_kept e [] none = tt
  all_kept e (event ∷ events) none = by (is_retune_of e event) refl none (all_kept e events)
    where
      by : (b : Bool) → is_retune_of e event ≡ b → (if b then event ∷ filter (is_retune_of e) events else filter (is_retune_of e) events) ≡ [] → (filter (is_retune_of e) events ≡ [] → AreKept e events) → AreKept e (event ∷ events)
      by true is none rest = absurd (cc)
      by false is none rest = (is, rest none)

  -- from the opening table
  counted_run : (run : Run A) (e : ℕ) (terms : Terms) (t b : ℕ) (strides : Strides) → HasExport run e terms → Reserves strides terms.rates → LimitHoldsLater strides.limit e run.setup (opening_table run.setup) run.events run.marks → (strides.phase ≡ Reservation → AreKept e run.events) →
      first_accepted e run.events (run_answers run.setup run.events run.marks) ≡ Some t → Within t (interval_of strides) b (choices e strides.phase b 0 run.events (answers_in run))
  counted_run run e terms t b strides there reserves holds keeps first = counted run.setup strides e t b run.events (opening_table run.setup) run.marks tidy virgin holds keeps first
    where
      tidy : Tidy e (opening_table run.setup)
      tidy = opening_tidy run.setup e (slice_get_within run.setup.exports e terms there)

      opened : side (opening_table run.setup) e ≡ opening_side terms
      opened = opening_side_at run.setup terms e there

      virgin : Virgin strides e (opening_table run.setup)
      virgin = record { next = ap (λ (s : Side). s.next) opened; r = ap (λ (s : Side). s.last_r) opened; l = ap (λ (s : Side). s.last_l) opened; reserves = λ counts. ap (λ (s : Side). s.rates.r_interval) opened ∙ reserves counts; rows = refl }

  counted_at_start : (run : Run A) (e : ℕ) (terms : Terms) (t b : ℕ) (phase : Phase) → HasExport run e terms → (phase ≡ Reservation → filter (is_retune_of e) run.events ≡ []) → first_accepted e run.events (run_answers run.setup run.events run.marks) ≡ Some t →
      Within t (interval_of (at_start terms phase)) b (choices e phase b 0 run.events (answers_in run))
  counted_at_start run e terms t b phase there kept first =
      counted_run run e terms t b (at_start terms phase) there (λ counts. refl) (any_limit_later run.setup e run.events (opening_table run.setup) run.marks) (λ counts. all_kept e run.events (kept counts)) first

  pub nothing_before : (run : Run A) (e : ℕ) (terms : Terms) (t b : ℕ) (phase : Phase) → HasExport run e terms → (phase ≡ Reservation → filter (is_retune_of e) run.events ≡ []) → first_accepted e run.events (run_answers run.setup run.events run.marks) ≡ Some t → b < t → choices e phase b 0 run.events (answers_in run) ≡ 0
  nothing_before run e terms t b phase there kept first lt = none_before t (interval_of (at_start terms phase)) b (choices e phase b 0 run.events (answers_in run)) (counted_at_start run e terms t b phase there kept first) lt

  pub bounded_by_limit : (run : Run A) (e : ℕ) (terms : Terms) (t b m : ℕ) → HasExport run e terms → first_accepted e run.events (run_answers run.setup run.events run.marks) ≡ Some t → t ≤ b → 0 < m → AllByRecursion (λ one. m ≤ one.interval) (drop 1 (arrivals_of e terms run.events (answers_in run))) → choices e Weight b 0 run.events (answers_in run) ≤ 1 + (b - t) / m
  bounded_by_limit run e terms t b m there first le lt all =
      at_most t m b (choices e Weight b 0 run.events (answers_in run))
      (counted_run run e terms t b (record { phase = Weight; limit = m; reservation = None }) there (λ counts. absurd (weight_reservation counts))
      (limit_held_later run.setup terms e m there run.events (opening_table run.setup) run.marks terms.rates.l_interval (opening_tidy run.setup e (slice_get_within run.setup.exports e terms there)) (ap (λ (s : Side). s.rates.l_interval) (opening_side_at run.setup terms e there)) all)
      (λ counts. absurd (weight_reservation counts)) first) lt
    where
      weight_reservation : Weight ≡ Reservation → ⊥
      weight_reservation h = grind (arith, h)

  pub bounded_by_reservation : (run : Run A) (e : ℕ) (terms : Terms) (t b interval : ℕ) → HasExport run e terms → filter (is_retune_of e) run.events ≡ [] → first_accepted e run.events (run_answers run.setup run.events run.marks) ≡ Some t → t ≤ b → terms.rates.r_interval ≡ Some interval → 0 < interval → choices e Reservation b 0 run.events (answers_in run) ≤ 1 + (b - t) / interval
  bounded_by_reservation run e terms t b interval there kept first le is lt = at_most t interval b (choices e Reservation b 0 run.events (answers_in run)) (subst (λ (i : ℕ). Within t i b (choices e Reservation b 0 run.events (answers_in run))) (ap (λ o. unwrap_or o 0) is) (counted_at_start run e terms t b Reservation there (λ counts. kept) first)) lt
