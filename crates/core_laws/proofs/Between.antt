-- A choice of an export is of its first request, so the bounds hold from one choice of it to a later one.
use Rattle.std.proofs.Common.{◌≡◌, ℕ, suc, ◌+◌, ◌<◌, ◌≤◌, max, Bool, true, false, not, eqb, ◌==◌, List, [], ◌∷◌, length, filter, slice_get, Some, pos, ◌≤ℤ◌, refl, sym, subst, ap, ◌∙◌, arith, inl, inr}
use Rattle.std.proofs.lemmas.Bool.Decides.{nat_tests}
use Rattle.std.proofs.lemmas.Option.{same_Some, none-some}
use Rattle.nbd_commands.specs.Terms.{Terms}
use Rattle.tag_clock.specs.declared.Phase.{Phase}
use Rattle.tag_clock.specs.declared.Phase.TheVariants.{Reservation, Weight}
use Rattle.server_table.specs.declared.event.Event.{Event}
use Rattle.server_table.specs.declared.event.Event.TheVariants.{Dispatch}
use Rattle.server_table.specs.declared.event.Answer.{Answer}
use Rattle.server_table.specs.declared.event.Answer.TheVariants as said
use Rattle.server_table.specs.Table.{Row, Table, Setup, waits_in, is_idle, choice, opening_table}
use Rattle.server_table.specs.Steps.{Outcome, step, run_answers}
use Rattle.core_laws.specs.Counts.{is_choice_in}
use Rattle.core_laws.specs.Statements.{StandsAt, WaitsInItsLimit, table_before}
use Rattle.core_laws.specs.Shares.{first_of, GoesFrom}
use Rattle.core_laws.specs.Between.{IsChosenAt, IsChosenTwice, WaitBetween}
use Rattle.lone_export.proofs.Cases.{true_false, some_told}
use Rattle.core_laws.proofs.Order.{Mem, mem_all, mem_filter}
use Rattle.core_laws.proofs.Tidy.{IsBefore, Sorted, Sorted-filter, filter-and, is_of, rows_of, Tidy}
use Rattle.core_laws.proofs.Chosen.{choice_first, and_right}
use Rattle.core_laws.proofs.Limits.{weight_waits}
use Rattle.core_laws.proofs.Reserved.{at_mem}
use Rattle.core_laws.proofs.Chains.{reached_before}
use Rattle.core_laws.proofs.Places.{at_place}
use Rattle.core_laws.proofs.Beside.{Alongside}

-- ---- of an export's waiting requests there is one of a number

waiting_sorted : (f : ℕ) (rows : List Row) → Sorted (rows_of f rows) → Sorted (filter (waits_in f) rows)
waiting_sorted f rows sorted = rw (filter-and (is_of f) (λ row. not row.out) rows) (Sorted-filter (λ row. not row.out) (rows_of f rows) sorted)

one_of_number : (ws : List Row) (c row : Row) → Sorted ws → slice_get ws 0 ≡ Some c → Mem row ws → row.number ≡ c.number → slice_get ws 0 ≡ Some row
one_of_number [] c row sorted first m e = absurd m
one_of_number (x ∷ xs) c row sorted first (inl is) e = ap Some is
one_of_number (x ∷ xs) c row sorted first (inr m) e =
    absurd (apart x.number row.number c.number (mem_all (IsBefore x) row xs sorted.0 m).number e (ap (λ (r : Row). r.number) (same_Some x c first)))
  where
    apart : (a b c : ℕ) → a < b → b ≡ c → a ≡ c → ⊥
    apart a b c lt h k = omega (arith, lt, h, k)

some_wait : (xs : List Row) (k : ℕ) (row : Row) → slice_get xs k ≡ Some row → (length xs == 0) ≡ false
some_wait [] k row at = absurd (none-some row at)
some_wait (x ∷ xs) k row at = more (length xs)
  where
    more : (n : ℕ) → (suc n == 0) ≡ false
    more n = grind (arith, nat_tests)

-- ---- a choice is of the first request

-- request n is the first of export f
abbrev IsFirst : ℕ → ℕ → Table → Type 0
IsFirst f n table = (c : Row) × (first_of f table ≡ Some c) × (c.number ≡ n)

module _ {A : Type 0} where
  picks_first : (setup : Setup) (terms : Terms) (table : Table) (f n t : ℕ) (phase : Phase) (memory : Bool) → Tidy f table →
      (step {A = A} setup table (Dispatch t) memory).answer ≡ said.Picked f n phase → IsFirst f n table
  picks_first setup terms table f n t phase memory tidy =
      some_told P (choice setup.inflight now) (λ c is answer. go c.row (fields c.row.export c.row.number c.phase answer) (λ same. choice_first setup.inflight now c is f same tidy.sorted)) (λ none answer. absurd (not_picked answer))
    where
      now : Table
      now = record table { now = max table.now t }

      P : Outcome A → Type 0
      P new = new.answer ≡ said.Picked f n phase → IsFirst f n table

      not_picked : ◌≡◌ {A = Answer A} said.Nothing (said.Picked f n phase) → ⊥
      not_picked h = grind (arith, h)

      fields : (a b : ℕ) (p : Phase) → ◌≡◌ {A = Answer A} (said.Picked a b p) (said.Picked f n phase) → (f ≡ a) × (b ≡ n)
      fields a b p h = (cc, cc)

      go : (c : Row) → (f ≡ c.export) × (c.number ≡ n) → (f ≡ c.export → first_of f table ≡ Some c) → IsFirst f n table
      go c h first = (c, first h.0, h.1)

  pub chosen_is_first : (setup : Setup) (terms : Terms) (f k : ℕ) (events : List (Event A)) (marks : List Bool) (row : Row) → slice_get setup.exports f ≡ Some terms →
      IsChosenAt f k setup events (run_answers setup events marks) marks row → first_of f (table_before k setup events marks) ≡ Some row
  chosen_is_first setup terms f k events marks row there at =
      let table : Table = table_before k setup events marks in
      let tidy : Tidy f table = (reached_before setup terms f k events marks there).tidy in
      let first : IsFirst f row.number table = at_place setup (λ answer. answer ≡ said.Picked f row.number at.phase → IsFirst f row.number table) (Dispatch at.moment) events (opening_table setup) marks k at.stands.0
      (λ memory. picks_first setup terms table f row.number at.moment at.phase memory tidy) (said.Picked f row.number at.phase) at.stands.1 refl in
      one_of_number (filter (waits_in f) table.rows) first.0 row (waiting_sorted f table.rows tidy.sorted) first.1 (at_mem row (filter (waits_in f) table.rows) at.place at.waits) (sym first.2)

  pub goes_between : (setup : Setup) (terms : Terms) (f i j : ℕ) (events : List (Event A)) (marks : List Bool) (start end : Row) → slice_get setup.exports f ≡ Some terms →
      IsChosenTwice f i j setup events (run_answers setup events marks) marks start end → GoesFrom f i j setup events marks start end
  goes_between setup terms f i j events marks start end there twice = record {
    order = no_later i j twice.later;
    first = chosen_is_first setup terms f i events marks start there twice.first;
    last = chosen_is_first setup terms f j events marks end there twice.second;
  }
    where
      no_later : (i j : ℕ) → i < j → i ≤ j
      no_later i j lt = omega (arith, lt)

  -- ---- where e itself is what is chosen at the first place, that is within its limit

  due_where_chosen : (setup : Setup) (terms : Terms) (f k n t : ℕ) (events : List (Event A)) (marks : List Bool) (row : Row) → slice_get setup.exports f ≡ Some terms →
      StandsAt k events (run_answers setup events marks) (Dispatch t) (said.Picked f n Weight) → row.number ≡ n →
      first_of f (table_before k setup events marks) ≡ Some row → row.l ≤ℤ pos (max (table_before k setup events marks).now t)
  due_where_chosen setup terms f k n t events marks row there stands number first =
      go (at_place setup (λ answer. answer ≡ said.Picked f n Weight → WaitsInItsLimit table t f n) (Dispatch t) events (opening_table setup) marks k stands.0
      (λ memory. weight_waits setup table f n t memory) (said.Picked f n Weight) stands.1 refl)
    where
      table : Table
      table = table_before k setup events marks

      waits : (other : Row) → other.export ≡ f → other.out ≡ false → waits_in f other ≡ true
      waits other h w = grind (arith, nat_tests, h, w)

      go : WaitsInItsLimit table t f n → row.l ≤ℤ pos (max table.now t)
      go (m, other, at, export, same, out, due) =
          subst (λ (r : Row). r.l ≤ℤ pos (max table.now t))
          (same_Some other row (sym (one_of_number (filter (waits_in f) table.rows) row other (waiting_sorted f table.rows (reached_before setup terms f k events marks there).tidy.sorted) first
          (mem_filter (waits_in f) other table.rows (waits other export out) (at_mem other table.rows m at)) (same ∙ sym number)) ∙ first))
          due

  pub along_between : (setup : Setup) (terms : Terms) (e f i j : ℕ) (events : List (Event A)) (marks : List Bool) (start end : Row) → slice_get setup.exports f ≡ Some terms →
      IsChosenTwice f i j setup events (run_answers setup events marks) marks start end → WaitBetween e f i j setup events marks start → Alongside e f i j setup events marks start
  along_between setup terms e f i j events marks start end there twice waits = record {
    f_waits = λ k low up. waits_at (eqb i k) k refl low up;
    f_due = λ k t row answer low lt stands chosen first. due_at (eqb i k) k t row answer refl low lt stands chosen first;
    e_waits = waits.e_waits;
    not_below = waits.not_below;
  }
    where
      at : ℕ → Table
      at k = table_before k setup events marks

      same : (k : ℕ) → eqb i k ≡ true → i ≡ k
      same k h = grind (arith, nat_tests, h)

      above : (k : ℕ) → eqb i k ≡ false → i ≤ k → i + 1 ≤ k
      above k h low = grind (arith, nat_tests, h, low)

      waits_at : (b : Bool) (k : ℕ) → eqb i k ≡ b → i ≤ k → k ≤ j → is_idle f (at k).rows ≡ false
      waits_at true k h low up = subst (λ (x : ℕ). is_idle f (at x).rows ≡ false) (same k h) (some_wait (filter (waits_in f) (at i).rows) twice.first.place start twice.first.waits)
      waits_at false k h low up = waits.f_waits k (above k h low) up

      by_weight : (p : Phase) → is_choice_in {A = A} e Weight (said.Picked f start.number p) ≡ true → p ≡ Weight
      by_weight Weight h = refl
      by_weight Reservation h = true_false (sym (and_right (eqb f e) _ h))

      at_first : (t : ℕ) (row : Row) (answer : Answer A) → StandsAt i events (run_answers setup events marks) (Dispatch t) answer → is_choice_in e Weight answer ≡ true →
          first_of f (at i) ≡ Some row → row.l ≤ℤ pos (max (at i).now t)
      at_first t row answer stands chosen first =
          let is : said.Picked f start.number twice.first.phase ≡ answer = same_Some _ answer (sym twice.first.stands.1 ∙ stands.1) in
          let phase : twice.first.phase ≡ Weight = by_weight twice.first.phase (subst (λ (x : Answer A). is_choice_in e Weight x ≡ true) (sym is) chosen) in
          due_where_chosen setup terms f i start.number t events marks row there
          (stands.0, subst (λ (p : Phase). slice_get (run_answers setup events marks) i ≡ Some (said.Picked f start.number p)) phase twice.first.stands.1)
          (ap (λ (r : Row). r.number) (same_Some row start (sym first ∙ chosen_is_first setup terms f i events marks start there twice.first))) first

      due_at : (b : Bool) (k t : ℕ) (row : Row) (answer : Answer A) → eqb i k ≡ b → i ≤ k → k < j → StandsAt k events (run_answers setup events marks) (Dispatch t) answer → is_choice_in e Weight answer ≡ true →
          first_of f (at k) ≡ Some row → row.l ≤ℤ pos (max (at k).now t)
      due_at true k t row answer h low lt stands chosen first =
          let back : k ≡ i = sym (same k h) in
          subst (λ (x : ℕ). row.l ≤ℤ pos (max (at x).now t)) (same k h)
          (at_first t row answer (subst (λ (x : ℕ). StandsAt x events (run_answers setup events marks) (Dispatch t) answer) back stands) chosen
          (subst (λ (x : ℕ). first_of f (at x) ≡ Some row) back first))
      due_at false k t row answer h low lt stands chosen first = waits.f_due k t row (above k h low) lt stands.0 first
