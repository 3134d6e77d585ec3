-- A dispatch, over the parts.
use Rattle.std.proofs.Common.{◌≡◌, ℕ, zero, suc, ◌+◌, ◌<◌, ◌≤◌, max, ℤ, Bool, true, false, cond, Option, Some, None, List, [], ◌∷◌, ◌++◌, map, length, filter, set, get_or, refl, sym, ◌∙◌, ap, subst, arith}
use Rattle.std.specs.Prelude.{⊤, ◌==◌, ◌&&◌, ◌||◌, nat_le, pos, option_map, drop}
use Rattle.std.specs.List.{sum_by}
use Rattle.std.proofs.lemmas.Bool.Decides.{nat_tests}
use Rattle.std.proofs.lemmas.List.{map-append, append_assoc, length-map, length-append, length-set}
use Rattle.std.proofs.lemmas.List.Elements.{filter-append}
use Rattle.std.proofs.lemmas.List.Sums.{sum_by-cons}
use Rattle.tag_clock.specs.Clocks.{lowered}
use Rattle.tag_clock.specs.declared.Phase.{Phase}
use Rattle.tag_clock.specs.declared.Phase.TheVariants.{Reservation, Weight}
use Rattle.eligibility.specs.Choice.{choice as choice_among, by_phase, due_r, due_p}
use Rattle.nbd_base.specs.Words.{when_some, change_at}
use Rattle.server_table.specs.Parts.{Entry, Part, row_of, part_rows, rows_from, side_of, table_of, setup_of}
use Rattle.server_table.specs.declared.event.Answer.TheVariants.{Picked, Nothing}
use Rattle.server_table.specs.declared.event.Event.TheVariants.{Dispatch}
use Rattle.server_table.specs.Table.{Row, Side, Choice, foremost, is_due_by_reservation, is_due_by_limit, r_key, p_key, waits_in, lower_r, lower_last_r, credited}
use Rattle.server_table.specs.Steps.{Outcome, outcome, send, sent, with_credit, step}
use Rattle.server_table.specs.Order.{AllParts, AllAbove, IsRising, IsNumbered, heads, least_row, chosen_row}
use Rattle.server_table.specs.Kept.{ChoosesAmongHeads, export_phase}
use Rattle.server_table.specs.Picks.{entry_credited, part_credited, front, part_sent, part_picked}
use Rattle.server_table.proofs.Rows.{side_at, sides_at, filter_entries, filter_all, filter_no}
use Rattle.server_table.proofs.Heads.{HeadAt, IsHeadAt, least_rows, least_is_head, due_r_order, due_p_order, choice_told, choice_of_heads}
use Rattle.server_table.proofs.Ordered.{ordered_rows, choice_pairs, pair_of}

-- ---- a map of one export's rows
abbrev pub IsOf : ℕ → (Row → Row) → Type 0
IsOf e g = (row : Row) → (row.export ≡ e → ⊥) → g row ≡ row

map_row_other : (e : ℕ) (g : Row → Row) → IsOf e g → (k : ℕ) (b : Bool) (entries : List Entry) → (k ≡ e → ⊥) → map g (map (row_of k b) entries) ≡ map (row_of k b) entries
map_row_other e g local k b [] ne = refl
map_row_other e g local k b (entry ∷ entries) ne =
    ap (λ r. r ∷ map g (map (row_of k b) entries)) (local (row_of k b entry) ne) ∙ ap (λ l. row_of k b entry ∷ l) (map_row_other e g local k b entries ne)

map_part_other : (e : ℕ) (g : Row → Row) → IsOf e g → (k : ℕ) (p : Part) → (k ≡ e → ⊥) → map g (part_rows k p) ≡ part_rows k p
map_part_other e g local k p ne =
    let a = map_row_other e g local k true p.out ne in
    let b = map_row_other e g local k false p.waiting ne in
    map-append g (map (row_of k true) p.out) (map (row_of k false) p.waiting) ∙ cc

map_past : (e : ℕ) (g : Row → Row) → IsOf e g → (k : ℕ) (ps : List Part) → e < k → map g (rows_from k ps) ≡ rows_from k ps
map_past e g local k [] lt = refl
map_past e g local k (p ∷ ps) lt =
    let a = map_part_other e g local k p (omega arith) in
    let b = map_past e g local (suc k) ps (omega arith) in
    map-append g (part_rows k p) (rows_from (suc k) ps) ∙ cc

pub map_at : (e : ℕ) (g : Row → Row) → IsOf e g → (k i : ℕ) (ps : List Part) (p q : Part) → e ≡ k + i → i < length ps → p ≡ get_or ps i p → map g (part_rows e p) ≡ part_rows e q → map g (rows_from k ps) ≡ rows_from k (set ps i q)
map_at e g local k i [] p q is lt at one = absurd (omega arith)
map_at e g local k zero (x ∷ ps) p q is lt at one =
    let same : e ≡ k = omega arith in
    let a : map g (part_rows k x) ≡ part_rows k q = subst (λ n. map g (part_rows n x) ≡ part_rows n q) same (subst (λ y. map g (part_rows e y) ≡ part_rows e q) at one) in
    let b = map_past e g local (suc k) ps (omega arith) in
    map-append g (part_rows k x) (rows_from (suc k) ps) ∙ cc
map_at e g local k (suc i) (x ∷ ps) p q is lt at one =
    let a = map_part_other e g local k x (omega arith) in
    let b = map_at e g local (suc k) i ps p q (omega arith) (omega arith) at one in
    map-append g (part_rows k x) (rows_from (suc k) ps) ∙ cc

set_set : (ps : List Part) (i : ℕ) (p q : Part) → set (set ps i p) i q ≡ set ps i q
set_set [] i p q = refl
set_set (x ∷ xs) zero p q = refl
set_set (x ∷ xs) (suc i) p q = ap (λ l. x ∷ l) (set_set xs i p q)

set_read : (ps : List Part) (i : ℕ) (p d : Part) → i < length ps → get_or (set ps i p) i d ≡ p
set_read [] i p d lt = absurd (omega arith)
set_read (x ∷ xs) zero p d lt = refl
set_read (x ∷ xs) (suc i) p d lt = set_read xs i p d (omega arith)

-- ---- the chosen row goes out
out_sent : (e : ℕ) (row : Row) (entries : List Entry) → map (send row) (map (row_of e true) entries) ≡ map (row_of e true) entries
out_sent e row [] = refl
out_sent e row (x ∷ xs) = ap (λ l. row_of e true x ∷ l) (out_sent e row xs)

rest_sent : (e : ℕ) (row : Row) (entries : List Entry) → AllAbove row.number entries → map (send row) (map (row_of e false) entries) ≡ map (row_of e false) entries
rest_sent e row [] h = refl
rest_sent e row (x ∷ xs) h =
    let lt = h.0 in
    let none : (e == row.export && x.number == row.number) ≡ false = grind (arith, nat_tests) in
    ap (λ b. record (row_of e false x) { out = b } ∷ map (send row) (map (row_of e false) xs)) none ∙ ap (λ l. row_of e false x ∷ l) (rest_sent e row xs h.1)

above_of : (xs : List Entry) (head : Entry) (rest : List Entry) → IsNumbered (xs ++ head ∷ rest) → AllAbove head.number rest
above_of [] head rest h = h.0
above_of (x ∷ xs) head rest h = above_of xs head rest h.1

rows_sent : (row : Row) (p : Part) (head : Entry) (rest : List Entry) → p.waiting ≡ head ∷ rest → row.number ≡ head.number → AllAbove head.number rest → map (send row) (part_rows row.export p) ≡ part_rows row.export (part_sent p)
rows_sent row p head rest is number above =
    let e = row.export in
    let outs = map (row_of e true) p.out in
    let hit : (e == e && head.number == row.number) ≡ true = grind (arith, nat_tests) in
    map-append (send row) outs (map (row_of e false) p.waiting)
    ∙ ap (λ l. l ++ map (send row) (map (row_of e false) p.waiting)) (out_sent e row p.out)
    ∙ ap (λ w. outs ++ map (send row) (map (row_of e false) w)) is
    ∙ ap (λ b. outs ++ (record (row_of e false head) { out = b } ∷ map (send row) (map (row_of e false) rest))) hit
    ∙ ap (λ l. outs ++ (row_of e true head ∷ l)) (rest_sent e row rest (subst (λ n. AllAbove n rest) (sym number) above))
    ∙ sym (append_assoc outs (row_of e true head ∷ []) (map (row_of e false) rest))
    ∙ ap (λ l. l ++ map (row_of e false) rest) (sym (map-append (row_of e true) p.out (head ∷ [])))
    ∙ ap (λ w. map (row_of e true) (p.out ++ front w) ++ map (row_of e false) (drop 1 w)) (sym is)

pub all_sent : (ps : List Part) (now : ℕ) (row : Row) (p : Part) (head : Entry) (rest : List Entry) → row.export < length ps → p ≡ get_or ps row.export p → p.waiting ≡ head ∷ rest → row.number ≡ head.number → AllAbove head.number rest → sent row (table_of ps now) ≡ table_of (set ps row.export (part_sent p)) now
all_sent ps now row p head rest lt at is number above =
    let f : Side → Side = λ side. record side { count = side.count + 1 } in
    let rows : map (send row) (rows_from 0 ps) ≡ rows_from 0 (set ps row.export (part_sent p)) = map_at row.export (send row) (λ other ne. send_other other ne) 0 row.export ps p (part_sent p) (omega arith) lt at (rows_sent row p head rest is number above) in
    ap (λ rs. record { rows = rs; sides = change_at f row.export (map side_of ps); now = now }) rows
    ∙ ap (λ ss. record { rows = rows_from 0 (set ps row.export (part_sent p)); sides = ss; now = now }) (sides_at f row.export ps p (part_sent p) lt at refl)
  where
    same_out : (b c : Bool) → c ≡ false → (b || c) ≡ b
    same_out true c is = refl
    same_out false c is = is

    send_other : (other : Row) → (other.export ≡ row.export → ⊥) → send row other ≡ other
    send_other other ne = ap (λ b. record other { out = b }) (same_out other.out (other.export == row.export && other.number == row.number) (grind (arith, nat_tests)))

-- ---- credit
out_credited : (e by : ℕ) (entries : List Entry) → map (lower_r by e) (map (row_of e true) entries) ≡ map (row_of e true) entries
out_credited e by [] = refl
out_credited e by (x ∷ xs) =
    let none : (e == e && false) ≡ false = grind (arith, nat_tests) in
    ap (λ b. record (row_of e true x) { r = cond b (lowered (pos by) x.tags.r) x.tags.r } ∷ map (lower_r by e) (map (row_of e true) xs)) none ∙ ap (λ l. row_of e true x ∷ l) (out_credited e by xs)

waits_credited : (e by : ℕ) (entries : List Entry) → map (lower_r by e) (map (row_of e false) entries) ≡ map (row_of e false) (map (entry_credited by) entries)
waits_credited e by [] = refl
waits_credited e by (x ∷ xs) =
    let hit : (e == e && true) ≡ true = grind (arith, nat_tests) in
    ap (λ b. record (row_of e false x) { r = cond b (lowered (pos by) x.tags.r) x.tags.r } ∷ map (lower_r by e) (map (row_of e false) xs)) hit ∙ ap (λ l. row_of e false (entry_credited by x) ∷ l) (waits_credited e by xs)

all_credited : (ps : List Part) (now e by : ℕ) (p : Part) → e < length ps → p ≡ get_or ps e p → credited by e (table_of ps now) ≡ table_of (set ps e (part_credited (Some by) p)) now
all_credited ps now e by p lt at =
    let q = part_credited (Some by) p in
    let rows : map (lower_r by e) (rows_from 0 ps) ≡ rows_from 0 (set ps e q) = map_at e (lower_r by e) (λ other ne. other_row other ne) 0 e ps p q (omega arith) lt at
    (map-append (lower_r by e) (map (row_of e true) p.out) (map (row_of e false) p.waiting)
    ∙ ap (λ l. l ++ map (lower_r by e) (map (row_of e false) p.waiting)) (out_credited e by p.out)
    ∙ ap (λ l. map (row_of e true) p.out ++ l) (waits_credited e by p.waiting)) in
    ap (λ rs. record { rows = rs; sides = change_at (lower_last_r by) e (map side_of ps); now = now }) rows
    ∙ ap (λ ss. record { rows = rows_from 0 (set ps e q); sides = ss; now = now }) (sides_at (lower_last_r by) e ps p q lt at refl)
  where
    other_row : (other : Row) → (other.export ≡ e → ⊥) → lower_r by e other ≡ other
    other_row other ne =
        let none : waits_in e other ≡ false = grind (arith, nat_tests) in
        ap (λ b. record other { r = cond b (lowered (pos by) other.r) other.r }) none

-- the whole change of a choice
chosen_table : (ps : List Part) (now : ℕ) (row : Row) (phase : Phase) (p : Part) → row.export < length ps → p ≡ get_or ps row.export p → with_credit (record { row = row; phase = phase }) (table_of (set ps row.export (part_sent p)) now) ≡ table_of (set ps row.export (part_picked phase p)) now
chosen_table ps now row Reservation p lt at = refl
chosen_table ps now row Weight p lt at =
    let e = row.export in
    let sent_ps = set ps e (part_sent p) in
    ap (λ (z : Side). when_some z.rates.r_interval (λ by. credited by e (table_of sent_ps now)) (table_of sent_ps now)) (side_at sent_ps now e (part_sent p) (rw length-set lt) (sym (set_read ps e (part_sent p) (part_sent p) lt)))
    ∙ by_interval p.rates.r_interval
  where
    by_interval : (o : Option ℕ) → when_some o (λ by. credited by row.export (table_of (set ps row.export (part_sent p)) now)) (table_of (set ps row.export (part_sent p)) now) ≡ table_of (set ps row.export (part_credited o (part_sent p))) now
    by_interval None = refl
    by_interval (Some by) =
        all_credited (set ps row.export (part_sent p)) now row.export by (part_sent p) (rw length-set lt) (sym (set_read ps row.export (part_sent p) (part_sent p) lt))
        ∙ ap (λ l. table_of l now) (set_set ps row.export (part_sent p) (part_credited (Some by) (part_sent p)))

-- ---- how many are out
abbrev pub outs : List Part → ℕ
outs parts = sum_by (λ part. length part.out) parts

pub outs_of : (k : ℕ) (ps : List Part) → length (filter (λ (row : Row). row.out) (rows_from k ps)) ≡ outs ps
outs_of k [] = refl
outs_of k (p ∷ ps) =
    let t : Row → Bool = λ (row : Row). row.out in
    let a : length (filter t (map (row_of k true) p.out)) ≡ length p.out = ap length (filter_entries t k true (λ entry. true) (λ entry. refl) p.out ∙ ap (map (row_of k true)) (filter_all (λ (entry : Entry). true) (λ entry. refl) p.out)) ∙ length-map p.out (row_of k true) in
    let b : length (filter t (map (row_of k false) p.waiting)) ≡ 0 = ap length (filter_entries t k false (λ entry. false) (λ entry. refl) p.waiting ∙ ap (map (row_of k false)) (filter_no (λ (entry : Entry). false) (λ entry. refl) p.waiting)) in
    let rest = outs_of (suc k) ps in
    let s = sum_by-cons (λ (q : Part). length q.out) p ps in
    let c : length (filter t (part_rows k p ++ rows_from (suc k) ps)) ≡ (length (filter t (map (row_of k true) p.out)) + length (filter t (map (row_of k false) p.waiting))) + length (filter t (rows_from (suc k) ps)) =
    ap length (filter-append t (part_rows k p) (rows_from (suc k) ps)) ∙ length-append (filter t (part_rows k p)) (filter t (rows_from (suc k) ps))
    ∙ ap (λ n. n + length (filter t (rows_from (suc k) ps))) (ap length (filter-append t (map (row_of k true) p.out) (map (row_of k false) p.waiting)) ∙ length-append (filter t (map (row_of k true) p.out)) (filter t (map (row_of k false) p.waiting))) in
    omega arith

-- ---- the choice
abbrev pub the_choice : ℕ → List Row → Option Choice
the_choice now rows = when_some (foremost r_key (filter (is_due_by_reservation now) rows)) (λ row. Some (record { row = row; phase = Reservation })) (when_some (foremost p_key (filter (is_due_by_limit now) rows)) (λ row. Some (record { row = row; phase = Weight })) None)

module _ {A : Type 0} where
  -- where as many are out as may be, nothing is chosen
  pub step_full : (ps : List Part) (now inflight t : ℕ) (memory : Bool) → inflight ≤ outs ps → step {A = A} (setup_of ps inflight) (table_of ps now) (Dispatch t) memory ≡ outcome (table_of ps (max now t)) Nothing
  step_full ps now inflight t memory full =
      let o = outs_of 0 ps in
      let test : nat_le inflight (length (filter (λ (row : Row). row.out) (rows_from 0 ps))) ≡ true = grind (arith, nat_tests) in
      ap (λ b. when_some (cond b None (the_choice (max now t) (rows_from 0 ps))) (λ chosen. outcome (with_credit chosen (sent chosen.row (table_of ps (max now t)))) (Picked chosen.row.export chosen.row.number chosen.phase)) (outcome (table_of ps (max now t)) Nothing)) test

told_pair : (o : Option Choice) → choice_told (option_map pair_of o) ≡ export_phase o
told_pair None = refl
told_pair (Some c) = refl

-- the heads tell the export and the phase of the choice
pub choice_told_of : (ps : List Part) (now : ℕ) → AllParts (λ p. IsNumbered (p.out ++ p.waiting)) ps → AllParts (λ p. IsRising p.waiting) ps → choice_among (pos now) (heads ps) ≡ export_phase (the_choice now (rows_from 0 ps))
choice_told_of ps now numbered rising =
    choice_of_heads now ps rising ∙ ap choice_told (choice_pairs now (rows_from 0 ps) (ordered_rows 0 ps numbered)) ∙ told_pair (the_choice now (rows_from 0 ps))

none_of : (o : Option Choice) → export_phase o ≡ None → o ≡ None
none_of None is = refl
none_of (Some c) is = absurd (cc)

module _ {A : Type 0} where
  pub step_none : (ps : List Part) (now inflight t : ℕ) (memory : Bool) → AllParts (λ p. IsNumbered (p.out ++ p.waiting)) ps → AllParts (λ p. IsRising p.waiting) ps → choice_among (pos (max now t)) (heads ps) ≡ None → step {A = A} (setup_of ps inflight) (table_of ps now) (Dispatch t) memory ≡ outcome (table_of ps (max now t)) Nothing
  step_none ps now inflight t memory numbered rising is =
      let none : the_choice (max now t) (rows_from 0 ps) ≡ None = none_of (the_choice (max now t) (rows_from 0 ps)) (sym (choice_told_of ps (max now t) numbered rising) ∙ is) in
      let made : Choice → Outcome A = λ chosen. outcome (with_credit chosen (sent chosen.row (table_of ps (max now t)))) (Picked chosen.row.export chosen.row.number chosen.phase) in
      ap (λ o. when_some (cond (nat_le inflight (length (filter (λ (row : Row). row.out) (rows_from 0 ps)))) None o) made (outcome (table_of ps (max now t)) Nothing)) none
      ∙ by_test (nat_le inflight (length (filter (λ (row : Row). row.out) (rows_from 0 ps)))) made
    where
      by_test : (b : Bool) (made : Choice → Outcome A) → when_some (cond b None None) made (outcome (table_of ps (max now t)) Nothing) ≡ outcome (table_of ps (max now t)) Nothing
      by_test true made = refl
      by_test false made = refl

-- the choice is the first request of its export
abbrev pub IsChoiceAt : List Part → Option (Row × Phase) → Type 0
IsChoiceAt ps None = ⊤
IsChoiceAt ps (Some a) = HeadAt 0 ps a.0

phase_at : (ps : List Part) (a b : Option (ℤ × Row)) → IsHeadAt 0 ps a → IsHeadAt 0 ps b → IsChoiceAt ps (by_phase a b)
phase_at ps None None ha hb = tt
phase_at ps None (Some b) ha hb = hb
phase_at ps (Some a) b ha hb = ha

chosen_at : (now : ℕ) (ps : List Part) → AllParts (λ p. IsRising p.waiting) ps → IsChoiceAt ps (chosen_row now (rows_from 0 ps))
chosen_at now ps rising =
    phase_at ps (least_row (due_r (pos now)) (rows_from 0 ps)) (least_row (due_p (pos now)) (rows_from 0 ps))
    (subst (IsHeadAt 0 ps) (sym (least_rows (due_r (pos now)) (due_r_order (pos now)) 0 ps rising)) (least_is_head (due_r (pos now)) 0 ps))
    (subst (IsHeadAt 0 ps) (sym (least_rows (due_p (pos now)) (due_p_order (pos now)) 0 ps rising)) (least_is_head (due_p (pos now)) 0 ps))

-- a choice of export e: its first request, and the step
pub record Chosen (A : Type 0) (ps : List Part) (now inflight t e : ℕ) (phase : Phase) : Type 0 where
  pub head : Entry
  pub rest : List Entry
  pub within : e < length ps
  pub waiting : (d : Part) → (get_or ps e d).waiting ≡ head ∷ rest
  pub stepped : (p : Part) (memory : Bool) → p ≡ get_or ps e p → step {A = A} (setup_of ps inflight) (table_of ps now) (Dispatch t) memory ≡ outcome (table_of (set ps e (part_picked phase p)) (max now t)) (Picked e head.number phase)

part_at : (P : Part → Type 0) (ps : List Part) (i : ℕ) (p : Part) → AllParts P ps → i < length ps → p ≡ get_or ps i p → P p
part_at P [] i p all lt at = absurd (omega arith)
part_at P (x ∷ ps) zero p all lt at = subst P (sym at) all.0
part_at P (x ∷ ps) (suc i) p all lt at = part_at P ps i p all.1 (omega arith) at

module _ {A : Type 0} where
  chosen_head : (ps : List Part) (now inflight t : ℕ) (c : Choice) → AllParts (λ p. IsNumbered (p.out ++ p.waiting)) ps → outs ps < inflight → the_choice (max now t) (rows_from 0 ps) ≡ Some c → HeadAt 0 ps c.row → Chosen A ps now inflight t c.row.export c.phase
  chosen_head ps now inflight t c numbered free is head =
      let e = c.row.export in
      let place : head.place ≡ e = let h = head.export in omega arith in
      let within : e < length ps = subst (λ n. n < length ps) place head.within in
      let waiting : (d : Part) → (get_or ps e d).waiting ≡ head.head ∷ head.rest = λ d. subst (λ n. (get_or ps n d).waiting ≡ head.head ∷ head.rest) place (head.waiting d) in
      let o = outs_of 0 ps in
      let test : nat_le inflight (length (filter (λ (row : Row). row.out) (rows_from 0 ps))) ≡ false = grind (arith, nat_tests) in
      let made : Choice → Outcome A = λ chosen. outcome (with_credit chosen (sent chosen.row (table_of ps (max now t)))) (Picked chosen.row.export chosen.row.number chosen.phase) in
      record {
        head = head.head;
        rest = head.rest;
        within = within;
        waiting = waiting;
        stepped = λ p memory at.
            let own : p.waiting ≡ head.head ∷ head.rest = ap (λ (q : Part). q.waiting) at ∙ waiting p in
            let order = part_at (λ p. IsNumbered (p.out ++ p.waiting)) ps e p numbered within at in
            let above = above_of p.out head.head head.rest (subst (λ l. IsNumbered (p.out ++ l)) own order) in
            ap (λ b. when_some (cond b None (the_choice (max now t) (rows_from 0 ps))) made (outcome (table_of ps (max now t)) Nothing)) test
            ∙ ap (λ o. when_some o made (outcome (table_of ps (max now t)) Nothing)) is
            ∙ ap (λ tb. outcome (with_credit c tb) (Picked c.row.export c.row.number c.phase)) (all_sent ps (max now t) c.row p head.head head.rest within at own head.number above)
            ∙ ap (λ tb. outcome tb (Picked e c.row.number c.phase)) (chosen_table ps (max now t) c.row c.phase p within at)
            ∙ ap (λ n. outcome (table_of (set ps e (part_picked c.phase p)) (max now t)) (Picked e n c.phase)) head.number;
      }

some_of : (o : Option Choice) (e : ℕ) (phase : Phase) → export_phase o ≡ Some (e, phase) → (c : Choice) × (o ≡ Some c) × (c.row.export ≡ e) × (c.phase ≡ phase)
some_of None e phase is = absurd (cc)
some_of (Some c) e phase is =
    let got : ℕ × Phase = (c.row.export, c.phase) in
    let goal : ℕ × Phase = (e, phase) in
    let same : got ≡ goal = some_same got goal is in
    (c, refl, ap (λ (q : ℕ × Phase). q.0) same, ap (λ (q : ℕ × Phase). q.1) same)
  where
    some_same : {X : Type 0} (a b : X) → Some a ≡ Some b → a ≡ b
    some_same a b is = cc

module _ {A : Type 0} where
  pub step_chosen : (ps : List Part) (now inflight t e : ℕ) (phase : Phase) → AllParts (λ p. IsNumbered (p.out ++ p.waiting)) ps → AllParts (λ p. IsRising p.waiting) ps → outs ps < inflight → choice_among (pos (max now t)) (heads ps) ≡ Some (e, phase) → Chosen A ps now inflight t e phase
  step_chosen ps now inflight t e phase numbered rising free is =
      let rows = rows_from 0 ps in
      let some = some_of (the_choice (max now t) rows) e phase (sym (choice_told_of ps (max now t) numbered rising) ∙ is) in
      let c = some.0 in
      let pairs : chosen_row (max now t) rows ≡ Some (c.row, c.phase) = choice_pairs (max now t) rows (ordered_rows 0 ps numbered) ∙ ap (option_map pair_of) some.1 in
      let head : HeadAt 0 ps c.row = subst (IsChoiceAt ps) pairs (chosen_at (max now t) ps rising) in
      subst (λ n. Chosen A ps now inflight t n phase) some.2 (subst (λ f. Chosen A ps now inflight t c.row.export f) some.3 (chosen_head ps now inflight t c numbered free some.1 head))

-- the choice over the table is that over the heads
pub chooses_among_heads : (ps : List Part) (now inflight : ℕ) → ChoosesAmongHeads ps now inflight
chooses_among_heads ps now inflight kept free =
    let test : nat_le inflight (length (filter (λ (row : Row). row.out) (rows_from 0 ps))) ≡ false = grind (arith, nat_tests) in
    ap (λ b. export_phase (cond b None (the_choice now (rows_from 0 ps)))) test ∙ sym (choice_told_of ps now kept.numbered kept.rising)
