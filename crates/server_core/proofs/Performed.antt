-- From a request of one export that is done to the step of the server.
use Rattle.std.proofs.Common.{◌≡◌, ℕ, zero, suc, ◌+◌, ◌<◌, ◌≤◌, Bool, true, false, cond, Option, Some, None, List, [], ◌∷◌, ◌++◌, map, length, filter, find, set, get_or, refl, sym, ◌∙◌, ap, subst, arith}
use Rattle.std.specs.Prelude.{◌==◌, is_some, option_map, slice_get}
use Rattle.std.proofs.lemmas.Bool.Decides.{nat_tests}
use Rattle.std.proofs.lemmas.List.Elements.{filter-append}
use Rattle.std.proofs.lemmas.List.{get_or-map}
use Rattle.nbd_base.specs.Words.{change_at}
use Rattle.tag_clock.specs.declared.Tags.{Tags}
use Rattle.tag_clock.specs.declared.Phase.TheVariants.{Weight}
use Rattle.lone_export.specs.Alone.{Alone, Job, Moved}
use Rattle.lone_export.specs.declared.step.Step.TheVariants as own
use Rattle.lone_export.specs.declared.step.StepAnswer.{StepAnswer}
use Rattle.server_table.specs.declared.event.Event.TheVariants.{Perform}
use Rattle.server_table.specs.declared.event.Answer.TheVariants.{Performed}
use Rattle.server_table.specs.Table.{Row}
use Rattle.server_table.specs.Parts.{Entry, Part, row_of, part_rows, rows_from, table_of, alone_of, job_of_entry, performed_part}
use Rattle.server_table.specs.Answers.{as_answer}
use Rattle.server_table.specs.Steps.{is_out_row}
use Rattle.server_table.proofs.Perform.{out_at, step_perform}
use Rattle.server_table.proofs.Rows.{found, filter_part}
use Rattle.server_core.specs.Kept.{IsServer}
use Rattle.server_core.specs.Members.{Standing, Seat, seats_without, own as own_of, Performs}
use Rattle.server_core.specs.Served.{parts, served_of, IsServed, Stepped}
use Rattle.server_core.proofs.Done.{was_out}
use Rattle.server_core.proofs.Changed.{kept_done, some_served}
use Rattle.server_core.proofs.Served.{part_there, within_parts, parts_set, same_setup, members_set, member_at, beyond, grows}

-- ---- seats
abbrev pub all_seats : List Standing → List (List Seat)
all_seats ms = map (λ (m : Standing). m.seats) ms

pub seats_there : (ms : List Standing) (e : ℕ) (m : Standing) → e < length ms → m ≡ get_or ms e m → get_or (all_seats ms) e [] ≡ m.seats
seats_there ms e m lt at = get_or-map (λ (x : Standing). x.seats) ms e m [] lt ∙ ap (λ (x : Standing). x.seats) (sym at)

pub seats_beyond : (ms : List Standing) (e : ℕ) → length ms ≤ e → get_or (all_seats ms) e [] ≡ []
seats_beyond [] e le = refl
seats_beyond (x ∷ xs) zero le = absurd (omega arith)
seats_beyond (x ∷ xs) (suc e) le = seats_beyond xs e (omega arith)

pub seats_change : (f : List Seat → List Seat) (ms : List Standing) (e : ℕ) (m m' : Standing) → m ≡ get_or ms e m → m'.seats ≡ f m.seats → all_seats (set ms e m') ≡ change_at f e (all_seats ms)
seats_change f [] e m m' at is = refl
seats_change f (x ∷ xs) zero m m' at is = ap (λ l. l ∷ all_seats xs) (is ∙ ap (λ (y : Standing). f y.seats) at)
seats_change f (x ∷ xs) (suc e) m m' at is = ap (λ l. x.seats ∷ l) (seats_change f xs e m m' at is)

-- ---- requests that are out
job_is_out : (n : ℕ) (es : List Entry) → is_some (find (λ (job : Job). job.number == n) (map job_of_entry es)) ≡ is_some (find (λ (entry : Entry). entry.number == n) es)
job_is_out n [] = refl
job_is_out n (x ∷ xs) = by_test (x.number == n) (job_is_out n xs)
  where
    by_test : (b : Bool) → is_some (find (λ (job : Job). job.number == n) (map job_of_entry xs)) ≡ is_some (find (λ (entry : Entry). entry.number == n) xs) →
        is_some (cond b (Some (job_of_entry x)) (find (λ (job : Job). job.number == n) (map job_of_entry xs))) ≡ is_some (cond b (Some x) (find (λ (entry : Entry). entry.number == n) xs))
    by_test true rest = refl
    by_test false rest = rest

some_of : {X : Type 0} (o : Option X) → is_some o ≡ true → (x : X) × (o ≡ Some x)
some_of None is = absurd (cc)
some_of (Some x) is = (x, refl)

mapped_is_some : {X Y : Type 0} (f : X → Y) (o : Option X) → is_some (option_map f o) ≡ is_some o
mapped_is_some f None = refl
mapped_is_some f (Some x) = refl

-- a row of the table is out exactly where its part says so
pub row_out : (ms : List Standing) (now inflight e n : ℕ) (m : Standing) → e < length ms → m ≡ get_or ms e m → is_some (find (λ (entry : Entry). entry.number == n) m.part.out) ≡ is_some (find (is_out_row e n) (served_of ms now inflight).table.rows)
row_out ms now inflight e n m lt at =
    sym (mapped_is_some (row_of e true) (find (λ (entry : Entry). entry.number == n) m.part.out)) ∙ ap is_some (sym (out_at (parts ms) e n m.part (within_parts ms e lt) (part_there ms e m lt at)))

no_rows : (e n k : ℕ) (ps : List Part) → k + length ps ≤ e → filter (is_out_row e n) (rows_from k ps) ≡ []
no_rows e n k [] le = refl
no_rows e n k (p ∷ ps) le =
    filter-append (is_out_row e n) (part_rows k p) (rows_from (suc k) ps)
    ∙ ap (λ l. l ++ filter (is_out_row e n) (rows_from (suc k) ps)) (filter_part e (is_out_row e n) (λ row ne. grind (arith, nat_tests)) k p (omega arith))
    ∙ no_rows e n (suc k) ps (omega arith)

pub none_beyond : (ms : List Standing) (now inflight e n : ℕ) → length ms ≤ e → find (is_out_row e n) (served_of ms now inflight).table.rows ≡ None
none_beyond ms now inflight e n le = found (is_out_row e n) (rows_from 0 (parts ms)) ∙ ap (λ (l : List Row). slice_get l 0) (no_rows e n 0 (parts ms) (let b = beyond ms e le in omega arith))

module _ (A : Type 0) where
  out_entry : (m m' : Standing) (n : ℕ) (memory : Bool) → Performs A m m' n memory → (x : Entry) × (find (λ (entry : Entry). entry.number == n) m.part.out ≡ Some x)
  out_entry m m' n memory done =
      some_of (find (λ (entry : Entry). entry.number == n) m.part.out)
      (sym (job_is_out n m.part.out) ∙ was_out A (alone_of m.part) n memory memory (find (λ (job : Job). job.number == n) (map job_of_entry m.part.out)) done.told)

  pub some_is_served : (ms : List Standing) (slots : List (Option Tags)) (asked now inflight served e n : ℕ) (m m' : Standing) (memory : Bool) → IsServed ms slots asked now inflight served → e < length ms → m ≡ get_or ms e m → Performs A m m' n memory → 0 < served
  some_is_served ms slots asked now inflight served e n m m' memory kept lt at done =
      let x = out_entry m m' n memory done in
      some_served (parts ms) slots asked now inflight served e n m.part x.0 kept.server (within_parts ms e lt) (part_there ms e m lt at) x.1

  pub kept_performs : (ms : List Standing) (slots : List (Option Tags)) (asked now inflight served served' e n : ℕ) (m m' : Standing) (memory : Bool) → IsServed ms slots asked now inflight served → e < length ms → m ≡ get_or ms e m → Performs A m m' n memory → served' + 1 ≡ served → IsServed (set ms e m') slots asked now inflight served'
  kept_performs ms slots asked now inflight served served' e n m m' memory kept lt at done one =
      let x = out_entry m m' n memory done in
      let state : Alone = (own_of {A = A} m (own.Perform n memory)).state in
      let q : m'.part ≡ performed_part n state m.part = ap (λ (y : Standing). y.part) done.standing in
      let r : m'.inflight ≡ m.inflight = ap (λ (y : Standing). y.inflight) done.standing in
      record {
        server = subst (λ (l : List Part). IsServer l slots asked now inflight served') (ap (set (parts ms) e) (sym q) ∙ sym (parts_set ms e m'))
            (kept_done (parts ms) slots asked now inflight served served' e n state m.part x.0 kept.server (within_parts ms e lt) (part_there ms e m lt at) x.1 (grows {A = A} m.part.terms (alone_of m.part) (own.Perform n memory)) one);
        room = members_set (λ (y : Standing). y.inflight ≡ inflight) ms e m' kept.room (r ∙ member_at (λ (y : Standing). y.inflight ≡ inflight) ms e m kept.room lt at);
      }

  pub stepped_performs : (ms : List Standing) (now inflight e n : ℕ) (m m' : Standing) (memory : Bool) → e < length ms → m ≡ get_or ms e m → Performs A m m' n memory → Stepped {A = A} (served_of ms now inflight) (Perform e n) (served_of (set ms e m') now inflight) (Performed memory)
  stepped_performs ms now inflight e n m m' memory lt at done =
      let moved : Moved A = own_of {A = A} m (own.Perform n memory) in
      let q : m'.part ≡ performed_part n moved.state m.part = ap (λ (y : Standing). y.part) done.standing in
      record {
        stepped = step_perform (parts ms) now inflight e n memory m.part Weight (within_parts ms e lt) (part_there ms e m lt at)
            ∙ ap (λ (z : Part). record { table = table_of (set (parts ms) e z) now; answer = as_answer e Weight moved.answer }) (sym q)
            ∙ ap (λ (l : List Part). record { table = table_of l now; answer = as_answer e Weight moved.answer }) (sym (parts_set ms e m'))
            ∙ ap (λ (a : StepAnswer A). record { table = table_of (parts (set ms e m')) now; answer = as_answer e Weight a }) done.told;
        setup = ap (λ l. record { exports = l; inflight = inflight }) (same_setup ms e m m' at (ap (λ (z : Part). z.terms) q));
      }

pub seats_performs : (A : Type 0) (ms : List Standing) (e n : ℕ) (m m' : Standing) (memory : Bool) → m ≡ get_or ms e m → Performs A m m' n memory → all_seats (set ms e m') ≡ change_at (seats_without n) e (all_seats ms)
seats_performs A ms e n m m' memory at done = seats_change (seats_without n) ms e m m' at (ap (λ (y : Standing). y.seats) done.standing)
