-- A perform is the export's own step.
use Rattle.std.proofs.Common.{◌≡◌, ℕ, ◌+◌, ◌<◌, Bool, true, false, cond, Option, Some, None, List, [], ◌∷◌, ◌++◌, map, length, filter, find, set, get_or, refl, sym, ◌∙◌, ap, arith}
use Rattle.std.specs.Prelude.{not, ◌==◌, ◌&&◌, slice_get, option_map}
use Rattle.std.proofs.lemmas.List.Elements.{filter-append}
use Rattle.std.proofs.lemmas.Bool.Decides.{nat_tests}
use Rattle.tag_clock.specs.declared.Phase.{Phase}
use Rattle.lone_export.specs.declared.step.Step.TheVariants as own
use Rattle.lone_export.specs.declared.step.StepAnswer.TheVariants as alone
use Rattle.nbd_base.specs.Words.{when_some, change_at}
use Rattle.nbd_commands.specs.Meaning.{may_want_memory}
use Rattle.lone_export.specs.Alone.{Alone, Job, Moved, own_step, stays, moves, done, undone}
use Rattle.server_table.specs.Parts.{Entry, Part, row_of, rows_from, side_of, table_of, setup_of, alone_of, job_of_entry, without, performed_part}
use Rattle.server_table.specs.declared.event.Answer.TheVariants.{NotOut, Performed}
use Rattle.server_table.specs.declared.event.Event.TheVariants.{Perform}
use Rattle.server_table.specs.Table.{Row, Side}
use Rattle.server_table.specs.Steps.{Outcome, outcome, changed, done_in, undone_in, done_side, undone_side, is_out_row, step}
use Rattle.server_table.specs.Answers.{as_answer}
use Rattle.server_table.proofs.Rows.{sides_at, set_same, find_only, found, filter_at, filter_entries, filter_all, filter_no}
use Rattle.lone_export.proofs.Cases.{fork}

module _ {A : Type 0} where
  -- a part after a perform of number n, and the table with it
  abbrev pub as_performed : List Part → ℕ → ℕ → ℕ → Part → Phase → Moved A → Outcome A
  as_performed ps now e n p phase moved = record { table = table_of (set ps e (performed_part n moved.state p)) now; answer = as_answer e phase moved.answer }

-- the row that is found is the entry's
found_map : (t : Row → Bool) (e : ℕ) (b : Bool) (f : Entry → Bool) → ((entry : Entry) → t (row_of e b entry) ≡ f entry) → (entries : List Entry) → find t (map (row_of e b) entries) ≡ option_map (row_of e b) (find f entries)
found_map t e b f same [] = refl
found_map t e b f same (x ∷ xs) = ap (λ c. cond c (Some (row_of e b x)) (find t (map (row_of e b) xs))) (same x) ∙ ap (λ o. cond (f x) (Some (row_of e b x)) o) (found_map t e b f same xs) ∙ by_test (f x)
  where
    by_test : (c : Bool) → cond c (Some (row_of e b x)) (option_map (row_of e b) (find f xs)) ≡ option_map (row_of e b) (cond c (Some x) (find f xs))
    by_test true = refl
    by_test false = refl

find_front : (t : Row → Bool) (xs ys : List Row) → filter t ys ≡ [] → find t (xs ++ ys) ≡ find t xs
find_front t xs ys none =
    found t (xs ++ ys) ∙ ap (λ l. slice_get l 0) (filter-append t xs ys) ∙ ap (λ l. slice_get (filter t xs ++ l) 0) none
    ∙ by_list (filter t xs) ∙ sym (found t xs)
  where
    by_list : (l : List Row) → slice_get (l ++ []) 0 ≡ slice_get l 0
    by_list [] = refl
    by_list (z ∷ zs) = refl

pub out_at : (ps : List Part) (e n : ℕ) (p : Part) → e < length ps → p ≡ get_or ps e p → find (is_out_row e n) (rows_from 0 ps) ≡ option_map (row_of e true) (find (λ (entry : Entry). entry.number == n) p.out)
out_at ps e n p lt at =
    find_only e (is_out_row e n) (λ row ne. grind (arith, nat_tests)) e ps p refl lt at
    ∙ find_front (is_out_row e n) (map (row_of e true) p.out) (map (row_of e false) p.waiting)
    (filter_entries (is_out_row e n) e false (λ entry. false) (λ entry. grind (arith, nat_tests)) p.waiting ∙ ap (map (row_of e false)) (filter_no (λ (entry : Entry). false) (λ entry. refl) p.waiting))
    ∙ found_map (is_out_row e n) e true (λ (entry : Entry). entry.number == n) (λ entry. grind (arith, nat_tests)) p.out

job_found : (n : ℕ) (entries : List Entry) → find (λ (job : Job). job.number == n) (map job_of_entry entries) ≡ option_map job_of_entry (find (λ (entry : Entry). entry.number == n) entries)
job_found n [] = refl
job_found n (x ∷ xs) = ap (λ o. cond (x.number == n) (Some (job_of_entry x)) o) (job_found n xs) ∙ by_test (x.number == n)
  where
    by_test : (c : Bool) → cond c (Some (job_of_entry x)) (option_map job_of_entry (find (λ (entry : Entry). entry.number == n) xs)) ≡ option_map job_of_entry (cond c (Some x) (find (λ (entry : Entry). entry.number == n) xs))
    by_test true = refl
    by_test false = refl

found_number : (n : ℕ) (entries : List Entry) (x : Entry) → find (λ (entry : Entry). entry.number == n) entries ≡ Some x → x.number ≡ n
found_number n [] x is = absurd (cc)
found_number n (y ∷ ys) x is = by_test (y.number == n) refl (found_number n ys x) is
  where
    by_test : (c : Bool) → (y.number == n) ≡ c → (find (λ (entry : Entry). entry.number == n) ys ≡ Some x → x.number ≡ n) → cond c (Some y) (find (λ (entry : Entry). entry.number == n) ys) ≡ Some x → x.number ≡ n
    by_test true h rest is = let same : y ≡ x = cc in ap (λ (z : Entry). z.number) (sym same) ∙ grind (arith, nat_tests)
    by_test false h rest is = rest is

-- the row goes away
rows_done : (ps : List Part) (e n : ℕ) (p : Part) (state : Alone) → e < length ps → p ≡ get_or ps e p → filter (λ other. not (is_out_row e n other)) (rows_from 0 ps) ≡ rows_from 0 (set ps e (performed_part n state p))
rows_done ps e n p state lt at =
    let t : Row → Bool = λ other. not (is_out_row e n other) in
    filter_at e t (λ row ne. grind (arith, nat_tests)) 0 e ps p (performed_part n state p) (omega arith) lt at
    (filter-append t (map (row_of e true) p.out) (map (row_of e false) p.waiting)
    ∙ ap (λ l. l ++ filter t (map (row_of e false) p.waiting)) (filter_entries t e true (λ (entry : Entry). not (entry.number == n)) (λ entry. grind (arith, nat_tests)) p.out)
    ∙ ap (λ l. map (row_of e true) (without n p.out) ++ l) (filter_entries t e false (λ entry. true) (λ entry. grind (arith, nat_tests)) p.waiting ∙ ap (map (row_of e false)) (filter_all (λ (entry : Entry). true) (λ entry. refl) p.waiting)))

gone_at : (ps : List Part) (now e n : ℕ) (p : Part) (change : Side → Side) (state : Alone) → e < length ps → p ≡ get_or ps e p → change (side_of p) ≡ side_of (performed_part n (record state { count = p.count }) p) → changed e (table_of ps now) (filter (λ other. not (is_out_row e n other)) (rows_from 0 ps)) change ≡ table_of (set ps e (performed_part n (record state { count = p.count + 1 }) p)) now
gone_at ps now e n p change state lt at is =
    let q : Part = performed_part n (record state { count = p.count + 1 }) p in
    let f : Side → Side = λ side. record (change side) { count = side.count + 1 } in
    ap (λ rs. record { rows = rs; sides = change_at f e (map side_of ps); now = now }) (rows_done ps e n p (record state { count = p.count + 1 }) lt at)
    ∙ ap (λ ss. record { rows = rows_from 0 (set ps e q); sides = ss; now = now }) (sides_at f e ps p q lt at (ap (λ (z : Side). record z { count = p.count + 1 }) is))

-- a number that isn't out leaves the part as it is
missing : (n : ℕ) (entries : List Entry) → find (λ (entry : Entry). entry.number == n) entries ≡ None → without n entries ≡ entries
missing n [] is = refl
missing n (y ∷ ys) is = by_test (y.number == n) (missing n ys) is
  where
    by_test : (c : Bool) → (find (λ (entry : Entry). entry.number == n) ys ≡ None → without n ys ≡ ys) → cond c (Some y) (find (λ (entry : Entry). entry.number == n) ys) ≡ None → cond (not c) (y ∷ without n ys) (without n ys) ≡ y ∷ ys
    by_test true rest is = absurd (cc)
    by_test false rest is = ap (λ l. y ∷ l) (rest is)

module _ {A : Type 0} where
  pub step_perform : (ps : List Part) (now inflight e n : ℕ) (memory : Bool) (p : Part) (phase : Phase) → e < length ps → p ≡ get_or ps e p → step {A = A} (setup_of ps inflight) (table_of ps now) (Perform e n) memory ≡ as_performed ps now e n p phase (own_step p.terms (alone_of p) (own.Perform n memory))
  step_perform ps now inflight e n memory p phase lt at =
      rw (out_at ps e n p lt at, job_found n p.out) (by_found (find (λ (entry : Entry). entry.number == n) p.out) refl)
    where
      done_row : (x : Entry) → x.number ≡ n → outcome {A = A} (done_in e (row_of e true x) (table_of ps now)) (Performed true) ≡ as_performed ps now e n p phase (moves (done (alone_of p) (job_of_entry x)) (alone.Performed true))
      done_row x is =
          ap (λ table. outcome table (Performed true))
          (ap (λ k. changed e (table_of ps now) (filter (λ other. not (is_out_row e k other)) (rows_from 0 ps)) (done_side (row_of e true x))) is
          ∙ gone_at ps now e n p (done_side (row_of e true x)) (done (alone_of p) (job_of_entry x)) lt at refl)

      undone_row : (x : Entry) → x.number ≡ n → outcome {A = A} (undone_in e (row_of e true x) (table_of ps now)) (Performed false) ≡ as_performed ps now e n p phase (moves (undone (alone_of p) (job_of_entry x)) (alone.Performed false))
      undone_row x is =
          ap (λ table. outcome table (Performed false))
          (ap (λ k. changed e (table_of ps now) (filter (λ other. not (is_out_row e k other)) (rows_from 0 ps)) (undone_side (row_of e true x))) is
          ∙ gone_at ps now e n p (undone_side (row_of e true x)) (undone (alone_of p) (job_of_entry x)) lt at refl)

      by_found : (o : Option Entry) → find (λ (entry : Entry). entry.number == n) p.out ≡ o →
          when_some (option_map (row_of e true) o) (λ (row : Row). cond {A = Outcome A} (not memory && may_want_memory row.request) (outcome (undone_in e row (table_of ps now)) (Performed false)) (outcome (done_in e row (table_of ps now)) (Performed true))) (outcome (table_of ps now) NotOut)
          ≡ as_performed ps now e n p phase (when_some (option_map job_of_entry o) (λ (job : Job). cond (not memory && may_want_memory job.request) (moves (undone (alone_of p) job) (alone.Performed false)) (moves (done (alone_of p) job) (alone.Performed true))) (stays (alone_of p) alone.NotOut))
      by_found None is = ap (λ l. outcome (table_of l now) NotOut) (sym (set_same ps e p at)) ∙ ap (λ os. outcome (table_of (set ps e (record p { out = os })) now) NotOut) (sym (missing n p.out is))
      by_found (Some x) is =
          let same = found_number n p.out x is in
          fork (as_performed ps now e n p phase) (not memory && may_want_memory x.request) (λ h. undone_row x same) (λ h. done_row x same)
