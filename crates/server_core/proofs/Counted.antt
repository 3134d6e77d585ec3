-- A step raises the count of its export by one where its answer tells that something changed, and no other count.
use Rattle.std.proofs.Common.{◌≡◌, ℕ, zero, suc, ◌+◌, ◌<◌, ◌≤◌, ◌^◌, max, Bool, true, false, not, ◌&&◌, ◌==◌, nat_le, Option, Some, List, [], ◌∷◌, map, length, filter, find, slice_get, pos, ◌-ℤ◌, if◌then◌else◌, refl, sym, subst, ap, ◌∙◌, arith, inl, inr}
use Rattle.std.specs.List.{AllByRecursion, sum_by}
use Rattle.std.proofs.lemmas.Bool.Decides.{nat_tests}
use Rattle.std.proofs.lemmas.Option.{slice_get_within, same_Some, none-some}
use Rattle.std.proofs.lemmas.List.{length-map}
use Rattle.std.proofs.lemmas.List.Sums.{sum_by-cons}
use Rattle.nbd_base.specs.Words.{change_at, change_each}
use Rattle.nbd_commands.specs.Terms.{Terms}
use Rattle.nbd_commands.specs.Verdict.{verdict_of}
use Rattle.nbd_commands.specs.Meaning.{may_want_memory}
use Rattle.nbd_wire.specs.Grammar.{RequestMessage}
use Rattle.reply_box.specs.Sessions.{Session, is_here, is_open_at, is_left_at, is_here_at, outbox_at}
use Rattle.server_table.specs.declared.event.Event.{Event}
use Rattle.server_table.specs.declared.event.Event.TheVariants.{Attach, Arrive, Dispatch, Perform, Take, Leave, Gone, Retune}
use Rattle.server_table.specs.declared.event.Answer.{Answer}
use Rattle.server_table.specs.declared.event.Answer.TheVariants as said
use Rattle.server_table.specs.Table.{Row, Side, Table, Setup, Choice, side, waits_in, is_idle, foremost, r_key, p_key, choice, shifted, due_by_reservation, due_by_limit, is_due_by_reservation, is_due_by_limit, lower_last_p, lower_last_r}
use Rattle.server_table.specs.Steps.{Outcome, outcome, step, changed, seated, with_sessions, with_rates, is_out_row, outstanding_in, new_row, sent, is_by_weight, with_credit, with_last, done_side, undone_side, accepted_in}
use Rattle.server_table.specs.Shares.{mark_of}
use Rattle.tag_clock.specs.declared.Tags.{Tags}
use Rattle.server_table.specs.Parts.{Entry, Part, row_of, part_rows, rows_from, side_of}
use Rattle.lone_export.proofs.Cases.{if_one, some_one}
use Rattle.core_laws.proofs.Lists.{all-append, find_passes}
use Rattle.core_laws.proofs.Order.{Mem, mem_all, mem_of_filter, foremost_mem}
use Rattle.core_laws.proofs.Chosen.{IsChosen, is_chosen}
use Rattle.server_core.specs.Counted.{rise, counted_steps}
use Rattle.server_core.specs.Members.{Standing}
use Rattle.server_core.specs.Served.{Served, parts, served_of, Stepped}

abbrev total : List Side → ℕ
total sides = sum_by (λ (one : Side). one.count) sides

-- ---- one side of a list is changed
total_more : (f : Side → Side) → ((x : Side) → (f x).count ≡ x.count + 1) → (e : ℕ) (sides : List Side) → e < length sides → total (change_at f e sides) ≡ total sides + 1
total_more f more e [] lt = absurd (omega arith)
total_more f more zero (x ∷ xs) lt =
    let a = sum_by-cons (λ (one : Side). one.count) (f x) xs in
    let b = sum_by-cons (λ (one : Side). one.count) x xs in
    let c = more x in
    omega (arith, a, b, c)
total_more f more (suc e) (x ∷ xs) lt =
    let a = sum_by-cons (λ (one : Side). one.count) x (change_at f e xs) in
    let b = sum_by-cons (λ (one : Side). one.count) x xs in
    let c = total_more f more e xs (omega arith) in
    omega (arith, a, b, c)

total_same : (f : Side → Side) → ((x : Side) → (f x).count ≡ x.count) → (e : ℕ) (sides : List Side) → total (change_at f e sides) ≡ total sides
total_same f same e [] = refl
total_same f same zero (x ∷ xs) =
    sum_by-cons (λ (one : Side). one.count) (f x) xs
    ∙ ap (λ n. n + total xs) (same x)
    ∙ sym (sum_by-cons (λ (one : Side). one.count) x xs)
total_same f same (suc e) (x ∷ xs) =
    sum_by-cons (λ (one : Side). one.count) x (change_at f e xs)
    ∙ ap (λ n. x.count + n) (total_same f same e xs)
    ∙ sym (sum_by-cons (λ (one : Side). one.count) x xs)

total_each : (f : ℕ → Side → Side) → ((k : ℕ) (x : Side) → (f k x).count ≡ x.count) → (k : ℕ) (sides : List Side) → total (change_each f k sides) ≡ total sides
total_each f same k [] = refl
total_each f same k (x ∷ xs) =
    sum_by-cons (λ (one : Side). one.count) (f k x) (change_each f (suc k) xs)
    ∙ ap (λ n. n + total (change_each f (suc k) xs)) (same k x)
    ∙ ap (λ n. x.count + n) (total_each f same (suc k) xs)
    ∙ sym (sum_by-cons (λ (one : Side). one.count) x xs)

length_each : (f : ℕ → Side → Side) (k : ℕ) (sides : List Side) → length (change_each f k sides) ≡ length sides
length_each f k [] = refl
length_each f k (x ∷ xs) = ap suc (length_each f (suc k) xs)

-- ---- the same counts
record SameCounts (old new : Table) : Type 0 where
  is : total new.sides ≡ total old.sides
  long : length new.sides ≡ length old.sides

same_shifted : (e t : ℕ) (table : Table) → SameCounts table (shifted e t table)
same_shifted e t table =
    let P = SameCounts table in
    let kept : SameCounts table table = record { is = refl; long = refl } in
    if_one P (is_idle e table.rows)
    (some_one P (foremost p_key (filter (λ row. not row.out) table.rows)) (λ first h.
    let f = lower_last_p (first.p -ℤ pos t) table.rows in
    record { is = total_each f (λ k x. refl) 0 table.sides; long = length_each f 0 table.sides }) kept)
    kept

same_credit : (chosen : Choice) (table : Table) → total (with_credit chosen table).sides ≡ total table.sides
same_credit chosen table =
    let P : Table → Type 0 = λ new. total new.sides ≡ total table.sides in
    if_one P (is_by_weight chosen.phase)
    (some_one P (side table chosen.row.export).rates.r_interval (λ by k. total_same (lower_last_r by) (λ x. refl) chosen.row.export table.sides) refl)
    refl

-- ---- a row that is found is of an export that is there
pub record Fits (setup : Setup) (table : Table) : Type 0 where
  pub sides : length table.sides ≡ length setup.exports
  pub rows : AllByRecursion (λ row. row.export < length setup.exports) table.rows

find_mem : (p : Row → Bool) (rows : List Row) (row : Row) → find p rows ≡ Some row → Mem row rows
find_mem p [] row is = absurd (none-some row is)
find_mem p (x ∷ xs) row is = go (find_mem p xs row) (p x) is
  where
    go : (find p xs ≡ Some row → Mem row xs) → (b : Bool) → (if b then Some x else find p xs) ≡ Some row → Mem row (x ∷ xs)
    go ih true e = inl (same_Some x row e)
    go ih false e = inr (ih e)

found_there : (setup : Setup) (table : Table) (e n : ℕ) (row : Row) → Fits setup table → find (is_out_row e n) table.rows ≡ Some row → e < length table.sides
found_there setup table e n row fits is =
    let there : row.export < length setup.exports = mem_all (λ row. row.export < length setup.exports) row table.rows fits.rows (find_mem (is_out_row e n) table.rows row is) in
    let own : row.export ≡ e = of_export row (find_passes (is_out_row e n) table.rows row is) in
    let long = fits.sides in
    omega (arith, there, own, long)
  where
    of_export : (x : Row) → is_out_row e n x ≡ true → x.export ≡ e
    of_export x h = grind (arith, nat_tests, h)

chosen_there : (setup : Setup) (table : Table) (chosen : Choice) → Fits setup table → choice setup.inflight table ≡ Some chosen → chosen.row.export < length table.sides
chosen_there setup table chosen fits is = rw fits.sides (mem_all (λ row. row.export < length setup.exports) chosen.row table.rows fits.rows (member (is_chosen setup.inflight table chosen is)))
  where
    member : IsChosen table chosen → Mem chosen.row table.rows
    member (inl by) = mem_of_filter (is_due_by_reservation table.now) chosen.row table.rows (foremost_mem r_key (due_by_reservation table) chosen.row by.0)
    member (inr by) = mem_of_filter (is_due_by_limit table.now) chosen.row table.rows (foremost_mem p_key (due_by_limit table) chosen.row by.0)

there : (setup : Setup) (table : Table) (e : ℕ) (terms : Terms) → Fits setup table → slice_get setup.exports e ≡ Some terms → e < length table.sides
there setup table e terms fits h = rw fits.sides (slice_get_within setup.exports e terms h)

-- ---- one step
module _ {A : Type 0} where
  record Counts (old : Table) (new : Outcome A) : Type 0 where
    is : total new.table.sides ≡ total old.sides + rise new.answer

  no_more : (old new : Table) (answer : Answer A) → total new.sides ≡ total old.sides → rise answer ≡ 0 → Counts old (outcome new answer)
  no_more old new answer same none = record { is = omega (arith, same, none) }

  one_more : (old from : Table) (e : ℕ) (rows : List Row) (change : Side → Side) (answer : Answer A) → total from.sides ≡ total old.sides → e < length from.sides → rise answer ≡ 1 → Counts old (outcome (changed e from rows change) answer)
  one_more old from e rows change answer same lt one =
      let more = total_more (λ (x : Side). record (change x) { count = x.count + 1 }) (λ x. refl) e from.sides lt in
      record { is = omega (arith, more, same, one) }

  changed_more : (table : Table) (e : ℕ) (rows : List Row) (change : Side → Side) (answer : Answer A) → e < length table.sides → rise answer ≡ 1 → Counts table (outcome (changed e table rows change) answer)
  changed_more table e rows change answer lt one = one_more table table e rows change answer refl lt one

  seated_more : (table : Table) (e : ℕ) (sessions : List Session) (answer : Answer A) → e < length table.sides → rise answer ≡ 1 → Counts table (outcome (seated e sessions table) answer)
  seated_more table e sessions answer lt one = changed_more table e table.rows (with_sessions sessions) answer lt one

  entered_more : (table : Table) (e s t : ℕ) (q : RequestMessage) → e < length table.sides → Counts table (accepted_in {A = A} e s t q (shifted e t table))
  entered_more table e s t q lt =
      let same = same_shifted e t table in
      let row = new_row e s t q (side (shifted e t table) e) in
      one_more table (shifted e t table) e _ (with_last row) _ same.is (let long = same.long in omega (arith, long, lt)) refl

  counts : (setup : Setup) (table : Table) (event : Event A) (memory : Bool) → Fits setup table → Counts table (step setup table event memory)
  counts setup table (Attach e) memory fits =
      let P = Counts table in
      some_one P (slice_get setup.exports e) (λ terms h.
      if_one P (nat_le (2 ^ 56) (side table e).count) (no_more table table said.Worn refl refl)
      (if_one P (length (filter is_here (side table e).sessions) == 64) (no_more table table said.Full refl refl)
      (if_one P (not memory) (no_more table table said.NoMemory refl refl)
      (seated_more table e _ _ (there setup table e terms fits h) refl)))) (no_more table table said.NoExport refl refl)
  counts setup table (Arrive e s t q) memory fits =
      let P = Counts table in
      some_one P (slice_get setup.exports e) (λ terms h.
      let lt = there setup table e terms fits h in
      if_one P (not (is_open_at (side table e).sessions s)) (no_more table table said.NotOpen refl refl)
      (if_one P (nat_le (2 ^ 56) (side table e).count) (no_more table table said.Worn refl refl)
      (if_one P (outstanding_in e s table == terms.window) (no_more table table said.Hold refl refl)
      (if_one P (not memory) (no_more table table said.NoMemory refl refl)
      (if_one P (not (verdict_of terms q == 0)) (seated_more table e _ _ lt refl)
      (if_one P (length (filter (waits_in e) table.rows) == terms.depth) (seated_more table e _ _ lt refl)
      (entered_more table e s t q lt))))))) (no_more table table said.NoExport refl refl)
  counts setup table (Dispatch t) memory fits =
      let later : Table = record table { now = max table.now t } in
      let fits' : Fits setup later = record { sides = fits.sides; rows = fits.rows } in
      some_one (Counts table) (choice setup.inflight later) (λ chosen h.
      let lt = chosen_there setup later chosen fits' h in
      let more = total_more (λ (x : Side). record x { count = x.count + 1 }) (λ x. refl) chosen.row.export later.sides lt in
      let same = same_credit chosen (sent chosen.row later) in
      record { is = same ∙ more }) (no_more table later said.Nothing refl refl)
  counts setup table (Perform e n) memory fits =
      let P = Counts table in
      some_one P (find (is_out_row e n) table.rows) (λ row h.
      let lt = found_there setup table e n row fits h in
      if_one P (not memory && may_want_memory row.request) (changed_more table e _ (undone_side row) _ lt refl) (changed_more table e _ (done_side row) _ lt refl)) (no_more table table said.NotOut refl refl)
  counts setup table (Take e s) memory fits =
      let P = Counts table in
      some_one P (slice_get setup.exports e) (λ terms h.
      if_one P (not (is_here_at (side table e).sessions s)) (no_more table table said.NotOpen refl refl)
      (some_one P (slice_get (outbox_at (side table e).sessions s) 0) (λ reply k. seated_more table e _ _ (there setup table e terms fits h) refl)
      (if_one P (is_left_at (side table e).sessions s && outstanding_in e s table == 0) (no_more table table said.End refl refl) (no_more table table said.Empty refl refl)))) (no_more table table said.NoExport refl refl)
  counts setup table (Leave e s) memory fits =
      let P = Counts table in
      some_one P (slice_get setup.exports e) (λ terms h.
      if_one P (not (is_open_at (side table e).sessions s)) (no_more table table said.NotOpen refl refl)
      (seated_more table e _ _ (there setup table e terms fits h) refl)) (no_more table table said.NoExport refl refl)
  counts setup table (Gone e s) memory fits =
      let P = Counts table in
      some_one P (slice_get setup.exports e) (λ terms h.
      if_one P (not (is_here_at (side table e).sessions s)) (no_more table table said.NotOpen refl refl)
      (seated_more table e _ _ (there setup table e terms fits h) refl)) (no_more table table said.NoExport refl refl)
  counts setup table (Retune e rates) memory fits =
      let P = Counts table in
      some_one P (slice_get setup.exports e) (λ terms h.
      if_one P (nat_le (2 ^ 56) (side table e).count) (no_more table table said.Worn refl refl)
      (if_one P (not (length (filter (waits_in e) table.rows) == 0)) (no_more table table said.Waiting refl refl)
      (if_one P (not memory) (no_more table table said.NoMemory refl refl)
      (changed_more table e table.rows (with_rates rates) _ (there setup table e terms fits h) refl)))) (no_more table table said.NoExport refl refl)

-- ---- as it is kept, export by export
rows_there : (e n : ℕ) (ps : List Part) → e + length ps ≤ n → AllByRecursion (λ (row : Row). row.export < n) (rows_from e ps)
rows_there e n [] le = tt
rows_there e n (p ∷ ps) le =
    all-append (λ (row : Row). row.export < n) (part_rows e p) (rows_from (suc e) ps)
    (all-append (λ (row : Row). row.export < n) (map (row_of e true) p.out) (map (row_of e false) p.waiting) (of true p.out) (of false p.waiting))
    (rows_there (suc e) n ps (omega (arith, le)))
  where
    of : (out : Bool) (entries : List Entry) → AllByRecursion (λ (row : Row). row.export < n) (map (row_of e out) entries)
    of out [] = tt
    of out (x ∷ xs) = (omega (arith, le), of out xs)

pub fits_served : (ms : List Standing) (now inflight : ℕ) → Fits (served_of ms now inflight).setup (served_of ms now inflight).table
fits_served ms now inflight =
    let ps = parts ms in
    let terms = length-map ps (λ (p : Part). p.terms) in
    record {
      sides = length-map ps side_of ∙ sym terms;
      rows = rows_there 0 (length (map (λ (p : Part). p.terms) ps)) ps (omega (arith, terms));
    }

module _ {A : Type 0} where
  counted_from : (old new : Served) (event : Event A) (answer : Answer A) → Fits old.setup old.table → Stepped old event new answer → counted_steps new ≡ counted_steps old + rise answer
  counted_from old new event answer fits one =
      let c : Counts old.table (step old.setup old.table event (mark_of answer)) = counts old.setup old.table event (mark_of answer) fits in
      (subst (Counts old.table) one.stepped c).is

  -- what is kept, and so at what the caller sees of it
  pub counted : (ms : List Standing) (now inflight : ℕ) (old new : Served) (event : Event A) (answer : Answer A) → served_of ms now inflight ≡ old → Stepped old event new answer → counted_steps new ≡ counted_steps old + rise answer
  counted ms now inflight old new event answer view one =
      counted_from old new event answer (subst (λ (v : Served). Fits v.setup v.table) view (fits_served ms now inflight)) one
