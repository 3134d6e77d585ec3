-- Whole runs: each step is an own step of the export, or leaves its part.
use Rattle.std.proofs.Common.{◌≡◌, ◌≢◌, ◌⊎◌, inl, inr, ℕ, max, Bool, true, false, ◌&&◌, ◌<◌, eqb, ◌==◌, List, [], ◌∷◌, length, filter, map, get_or, drop, slice_get, Option, Some, None, option_map, if◌then◌else◌, refl, sym, subst, ap, ◌∙◌, arith}
use Rattle.std.proofs.lemmas.Bool.Decides.{nat_tests}
use Rattle.std.proofs.lemmas.Option.{same_Some, none-some, slice_get-map, slice_get_within, get_or_from_slice_get}
use Rattle.tag_clock.specs.declared.Phase.{Phase}
use Rattle.server_table.specs.declared.event.Event.{Event}
use Rattle.server_table.specs.declared.event.Event.TheVariants.{Attach, Arrive, Dispatch, Perform, Take, Leave, Gone, Retune}
use Rattle.server_table.specs.declared.event.Answer.{Answer}
use Rattle.server_table.specs.declared.event.Answer.TheVariants as said
use Rattle.lone_export.specs.declared.step.Step.{Step}
use Rattle.lone_export.specs.declared.step.Step.TheVariants as own
use Rattle.lone_export.specs.declared.step.StepAnswer.{StepAnswer}
use Rattle.nbd_commands.specs.Terms.{Terms}
use Rattle.lone_export.specs.Alone.{Alone, opening, own_step, alone, answers_alone}
use Rattle.server_table.specs.Table.{Row, Table, Setup, side, no_side, part, job_of, waits_in, is_idle, opening_side, opening_table, choice}
use Rattle.server_table.specs.Steps.{Outcome, step, sent, table_after, answers_of}
use Rattle.server_table.specs.Shares.{as_alone, own_of, own, told, named, is_made, mark_of}
use Rattle.core_laws.specs.Runs.{Run, HasExport, own_steps, told_answers, last_part}
use Rattle.lone_export.proofs.Cases.{some_told}
use Rattle.lone_export.proofs.Tags.{rates_of_step}
use Rattle.std.proofs.lemmas.List.{length-map}
use Rattle.core_laws.proofs.Named.{Agrees, IsNamed, leaves, agrees_named, agrees_other}
use Rattle.core_laws.proofs.Tidy.{Tidy}
use Rattle.core_laws.proofs.Chosen.{agrees_dispatch, tidy_step, part_with_credit, sent_other}

pub opening_side_at : (setup : Setup) (terms : Terms) (e : ℕ) → slice_get setup.exports e ≡ Some terms → side (opening_table setup) e ≡ opening_side terms
opening_side_at setup terms e there = get_or_from_slice_get (map opening_side setup.exports) e (opening_side terms) no_side (slice_get-map opening_side setup.exports e ∙ ap (option_map opening_side) there)

pub opening_part : (setup : Setup) (terms : Terms) (e : ℕ) → slice_get setup.exports e ≡ Some terms → part e (opening_table setup) ≡ opening terms
opening_part setup terms e there = rw (opening_side_at setup terms e there) refl

pub opening_tidy : (setup : Setup) (e : ℕ) → e < length setup.exports → Tidy e (opening_table setup)
opening_tidy setup e lt = record { there = rw (length-map setup.exports opening_side) lt; sorted = tt; kept = tt }

-- an event leaves the rates of export e, or no request of it waits before it and after it
abbrev pub Steady : ℕ → Table → Table → Type 0
Steady e old new = ((side new e).rates ≡ (side old e).rates) ⊎ ((filter (waits_in e) old.rows ≡ []) × (filter (waits_in e) new.rows ≡ []))

module _ {A : Type 0} where
  -- an event that names f
  by_name : (setup : Setup) (terms : Terms) (table : Table) (e f : ℕ) (event : Event A) (memory : Bool) (one : Step A) → slice_get setup.exports e ≡ Some terms → Tidy e table → IsNamed f event →
      own_of e event (step setup table event memory).answer ≡ (if eqb f e && is_made (step setup table event memory).answer then Some one else None) → (b : Bool) → eqb e f ≡ b → Agrees terms e table event (step setup table event memory)
  by_name setup terms table e f event memory one there tidy is shape true h =
      agrees_named setup terms table e event memory there tidy.there (subst (λ (k : ℕ). IsNamed k event) (sym (equal e f h)) is)
    where
      equal : (e f : ℕ) → eqb e f ≡ true → e ≡ f
      equal e f h = grind (arith, nat_tests, h)
  by_name setup terms table e f event memory one there tidy is shape false h =
      rw shape (agrees_other terms e f table (step setup table event memory) one differ (leaves setup table e f event memory is differ))
    where
      differ : e ≡ f → ⊥
      differ k = grind (arith, nat_tests, h, k)

  pub agrees : (setup : Setup) (terms : Terms) (table : Table) (e : ℕ) (event : Event A) (memory : Bool) → slice_get setup.exports e ≡ Some terms → Tidy e table → Agrees terms e table event (step setup table event memory)
  agrees setup terms table e (Attach f) memory there tidy = by_name setup terms table e f (Attach f) memory own.Attach there tidy refl refl (eqb e f) refl
  agrees setup terms table e (Arrive f s t q) memory there tidy = by_name setup terms table e f (Arrive f s t q) memory (own.Arrive s t q) there tidy refl refl (eqb e f) refl
  agrees setup terms table e (Dispatch t) memory there tidy = agrees_dispatch A setup terms table e t memory tidy
  agrees setup terms table e (Perform f n) memory there tidy = by_name setup terms table e f (Perform f n) memory (own.Perform n (mark_of (step setup table (Perform f n) memory).answer)) there tidy refl refl (eqb e f) refl
  agrees setup terms table e (Take f s) memory there tidy = by_name setup terms table e f (Take f s) memory (own.Take s) there tidy refl refl (eqb e f) refl
  agrees setup terms table e (Leave f s) memory there tidy = by_name setup terms table e f (Leave f s) memory (own.Leave s) there tidy refl refl (eqb e f) refl
  agrees setup terms table e (Gone f s) memory there tidy = by_name setup terms table e f (Gone f s) memory (own.Gone s) there tidy refl refl (eqb e f) refl
  agrees setup terms table e (Retune f rates) memory there tidy = by_name setup terms table e f (Retune f rates) memory (own.Retune rates) there tidy refl refl (eqb e f) refl

  -- ---- runs

  pub record Projected (setup : Setup) (terms : Terms) (e : ℕ) (table : Table) (events : List (Event A)) (marks : List Bool) : Type 0 where
    pub told : told e events (answers_of setup table events marks) ≡ answers_alone terms (part e table) (own e events (answers_of setup table events marks))
    pub last : part e (table_after setup table events marks) ≡ alone terms (part e table) (own e events (answers_of setup table events marks))

  pub projected : (setup : Setup) (terms : Terms) (e : ℕ) → slice_get setup.exports e ≡ Some terms → (events : List (Event A)) (table : Table) (marks : List Bool) → Tidy e table → Projected setup terms e table events marks
  projected setup terms e there [] table marks tidy = record { told = refl; last = refl }
  projected setup terms e there (event ∷ events) table marks tidy =
      let mark : Bool = get_or marks 0 true in
      let new : Outcome A = step setup table event mark in
      let rest : Projected setup terms e new.table events (drop 1 marks) = projected setup terms e there events new.table (drop 1 marks) (tidy_step setup table e event mark tidy) in
      go (own_of e event new.answer) refl rest (agrees setup terms table e event mark there tidy)
    where
      new : Outcome A
      new = step setup table event (get_or marks 0 true)

      go : (o : Option (Step A)) → own_of e event new.answer ≡ o → Projected setup terms e new.table events (drop 1 marks) → Agrees terms e table event new → Projected setup terms e table (event ∷ events) marks
      go None is rest agreed =
          let same : part e new.table ≡ part e table = rw is at agreed in
          record { told = rw (is, ← same) rest.told; last = rw (is, ← same) rest.last }
      go (Some one) is rest agreed =
          let both : (part e new.table ≡ (own_step terms (part e table) one).state) × (as_alone new.answer ≡ Some (own_step terms (part e table) one).answer) = rw is at agreed in
          record { told = rw (is, both.1, ← both.0) (ap (λ (answers : List (StepAnswer A)). (own_step terms (part e table) one).answer ∷ answers) rest.told); last = rw (is, ← both.0) rest.last }

  pub from_opening : (setup : Setup) (terms : Terms) (e : ℕ) (events : List (Event A)) (marks : List Bool) → slice_get setup.exports e ≡ Some terms → Projected setup terms e (opening_table setup) events marks
  from_opening setup terms e events marks there = projected setup terms e there events (opening_table setup) marks (opening_tidy setup e (slice_get_within setup.exports e terms there))

  -- ---- the rates in force

  pub rates_step : (setup : Setup) (terms : Terms) (table : Table) (e : ℕ) (event : Event A) (memory : Bool) → slice_get setup.exports e ≡ Some terms → Tidy e table → Steady e table (step setup table event memory).table
  rates_step setup terms table e event memory there tidy = go (own_of e event new.answer) refl (agrees setup terms table e event memory there tidy)
    where
      new : Outcome A
      new = step setup table event memory

      none : (xs : List Row) → map job_of xs ≡ [] → xs ≡ []
      none [] h = refl
      none (x ∷ xs) h = absurd (cc)

      go : (o : Option (Step A)) → own_of e event new.answer ≡ o → Agrees terms e table event new → Steady e table new.table
      go None is agreed =
          let same : part e new.table ≡ part e table = rw is at agreed in
          inl (ap (λ (a : Alone). a.rates) same)
      go (Some one) is agreed =
          let both : (part e new.table ≡ (own_step terms (part e table) one).state) × (as_alone new.answer ≡ Some (own_step terms (part e table) one).answer) = rw is at agreed in
          by both.0 (rates_of_step terms (part e table) one)
        where
          by : part e new.table ≡ (own_step terms (part e table) one).state → ((own_step terms (part e table) one).state.rates ≡ (part e table).rates) ⊎ (((part e table).waiting ≡ []) × ((own_step terms (part e table) one).state.waiting ≡ [])) → Steady e table new.table
          by same (inl h) = inl (ap (λ (a : Alone). a.rates) same ∙ h)
          by same (inr h) = inr (none (filter (waits_in e) table.rows) h.0, none (filter (waits_in e) new.table.rows) (ap (λ (a : Alone). a.waiting) same ∙ h.1))

  -- while a request waits the rates stay
  pub rates_kept : (setup : Setup) (terms : Terms) (table : Table) (e : ℕ) (event : Event A) (memory : Bool) → slice_get setup.exports e ≡ Some terms → Tidy e table → is_idle e table.rows ≡ false → (side (step setup table event memory).table e).rates ≡ (side table e).rates
  rates_kept setup terms table e event memory there tidy active = by (rates_step setup terms table e event memory there tidy)
    where
      by : Steady e table (step setup table event memory).table → (side (step setup table event memory).table e).rates ≡ (side table e).rates
      by (inl same) = same
      by (inr none) = absurd (let idle : is_idle e table.rows ≡ true = ap (λ (xs : List Row). length xs == 0) none.0 in cc)

  pub told_alone : (run : Run A) (e : ℕ) (terms : Terms) → HasExport run e terms → told_answers e run ≡ answers_alone terms (opening terms) (own_steps e run)
  told_alone run e terms there = rw (← opening_part run.setup terms e there) (from_opening run.setup terms e run.events run.marks there).told

  pub last_alone : (run : Run A) (e : ℕ) (terms : Terms) → HasExport run e terms → last_part e run ≡ alone terms (opening terms) (own_steps e run)
  last_alone run e terms there = rw (← opening_part run.setup terms e there) (from_opening run.setup terms e run.events run.marks there).last

  -- ---- locality

  pub leaves_others : (setup : Setup) (table : Table) (e f : ℕ) (event : Event A) (memory : Bool) → named event ≡ Some f → e ≢ f → part e (step setup table event memory).table ≡ part e table
  leaves_others setup table e f event memory is differ = leaves setup table e f event memory (names event is) differ
    where
      names : (event : Event A) → named event ≡ Some f → IsNamed f event
      names (Attach named) is = sym (same_Some named f is)
      names (Arrive named s t q) is = sym (same_Some named f is)
      names (Dispatch t) is = absurd (none-some f is)
      names (Perform named n) is = sym (same_Some named f is)
      names (Take named s) is = sym (same_Some named f is)
      names (Leave named s) is = sym (same_Some named f is)
      names (Gone named s) is = sym (same_Some named f is)
      names (Retune named rates) is = sym (same_Some named f is)

  pub leaves_unchosen : (setup : Setup) (table : Table) (e f n t : ℕ) (phase : Phase) (memory : Bool) → (step {A = A} setup table (Dispatch t) memory).answer ≡ said.Picked f n phase → e ≢ f → part e (step {A = A} setup table (Dispatch t) memory).table ≡ part e table
  leaves_unchosen setup table e f n t phase memory =
      let now : Table = record table { now = max table.now t } in
      some_told (λ (new : Outcome A). new.answer ≡ said.Picked f n phase → e ≢ f → part e new.table ≡ part e table) (choice setup.inflight now)
      (λ chosen is answer differ. part_with_credit chosen e (sent chosen.row now) ∙ sent_other e now chosen (λ same. differ (same ∙ exports chosen.row.export chosen.row.number chosen.phase answer)))
      (λ none answer differ. refl)
    where
      exports : (a b : ℕ) (p : Phase) → ◌≡◌ {A = Answer A} (said.Picked a b p) (said.Picked f n phase) → a ≡ f
      exports a b p h = cc
