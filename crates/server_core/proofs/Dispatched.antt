-- A dispatch, over the exports of a server.
use Rattle.std.proofs.Common.{◌≡◌, ℕ, suc, ◌+◌, ◌<◌, ◌≤◌, max, true, false, Option, Some, None, List, [], ◌∷◌, ◌++◌, map, length, set, get_or, refl, sym, ◌∙◌, ap, subst, arith}
use Rattle.std.specs.Prelude.{pos, ◌^◌, ◌*◌, filter, not}
use Rattle.std.specs.List.{sum_by}
use Rattle.std.proofs.lemmas.List.Elements.{filter-append}
use Rattle.std.proofs.lemmas.List.Sums.{sum_by-cons}
use Rattle.std.proofs.lemmas.List.{length-append}
use Rattle.server_table.specs.Table.{Row}
use Rattle.server_table.proofs.Rows.{filter_entries, filter_all, filter_no}
use Rattle.nbd_base.specs.Words.{change_at}
use Rattle.tag_clock.specs.declared.Tags.{Tags}
use Rattle.tag_clock.specs.declared.Phase.{Phase}
use Rattle.tag_clock.specs.declared.Phase.TheVariants.{Reservation, Weight}
use Rattle.eligibility.specs.Choice.{choice, IsActive, IsSlotInRange}
use Rattle.lone_export.specs.declared.step.Step.TheVariants as own
use Rattle.lone_export.specs.declared.step.StepAnswer.TheVariants as alone
use Rattle.export_cell.specs.Journal.{JournalMove}
use Rattle.server_table.specs.declared.event.Event.TheVariants.{Dispatch}
use Rattle.server_table.specs.declared.event.Answer.TheVariants.{Picked, Nothing}
use Rattle.server_table.specs.Parts.{Entry, Part, row_of, part_rows, rows_from, table_of}
use Rattle.server_table.specs.Order.{AllParts, IsNumbered, head_tags}
use Rattle.server_table.specs.Picks.{part_sent, part_credited, part_picked}
use Rattle.server_table.specs.Steps.{outcome}
use Rattle.server_table.proofs.Dispatch.{Chosen, step_full, step_none, step_chosen}
use Rattle.server_core.specs.Kept.{IsPart, IsServer, TagsInRange, total}
use Rattle.server_core.specs.Members.{Standing, Seat, slot_in, first_number, Picks}
use Rattle.server_core.specs.Made.{Makes}
use Rattle.server_core.specs.Served.{Served, parts, served_of, IsServed, Stepped}
use Rattle.server_core.proofs.Entries.{part_at}
use Rattle.server_core.proofs.Picked.{head_in_range}
use Rattle.server_core.proofs.Changed.{in_order, kept_picked, pick_in_range, some_waits, present_head, few_out}
use Rattle.server_core.proofs.Served.{part_there, within_parts, parts_set, same_setup, members_set, member_at}
use Rattle.std.proofs.lemmas.List.{length-map, length-set, get_or-set_same}
use Rattle.server_core.proofs.Journals.{moves_own}
use Rattle.server_core.proofs.Made.{makes}
use Rattle.server_core.proofs.Performed.{all_seats, seats_change, seats_there}

picked_terms : (phase : Phase) (p : Part) → (part_picked phase p).terms ≡ p.terms
picked_terms Reservation p = refl
picked_terms Weight p = by_interval p.rates.r_interval
  where
    by_interval : (o : Option ℕ) → (part_credited o (part_sent p)).terms ≡ p.terms
    by_interval None = refl
    by_interval (Some interval) = refl

module _ (A : Type 0) where
  stepped_full : (ms : List Standing) (slots : List (Option Tags)) (asked now t inflight served : ℕ) → IsServed ms slots asked now inflight served → inflight ≤ served → Stepped {A = A} (served_of ms now inflight) (Dispatch t) (served_of ms (max now t) inflight) Nothing
  stepped_full ms slots asked now t inflight served kept full = record { stepped = step_full (parts ms) now inflight t true (let c = kept.server.counted in omega arith); setup = refl }

  stepped_none : (ms : List Standing) (slots : List (Option Tags)) (asked now t inflight served : ℕ) → IsServed ms slots asked now inflight served → choice (pos (max now t)) slots ≡ None → Stepped {A = A} (served_of ms now inflight) (Dispatch t) (served_of ms (max now t) inflight) Nothing
  stepped_none ms slots asked now t inflight served kept none =
      let order = in_order (total (parts ms)) (parts ms) kept.server.each in
      record { stepped = step_none (parts ms) now inflight t true order.0 order.1 (ap (choice (pos (max now t))) (sym kept.server.firsts) ∙ none); setup = refl }

  -- nothing is chosen, at this moment
  pub makes_full : {ms : List Standing} {slots : List (Option Tags)} {asked now later inflight served : ℕ} {old : Served} (t : ℕ) → IsServed ms slots asked now inflight served → served_of ms now inflight ≡ old → later ≡ max now t → inflight ≤ served → Makes {A = A} old (Dispatch t) (served_of ms later inflight) Nothing
  makes_full {ms} {slots} {asked} {now} {inflight} {served} {old} t kept view at full =
      subst (λ n. Makes {A = A} old (Dispatch t) (served_of ms n inflight) Nothing) (sym at)
      (makes {A = A} ms now inflight view (stepped_full ms slots asked now t inflight served kept full) refl refl)

  pub makes_nothing : {ms : List Standing} {slots : List (Option Tags)} {asked now later inflight served : ℕ} {old : Served} {said : Option (ℕ × Phase)} (t : ℕ) → IsServed ms slots asked now inflight served → served_of ms now inflight ≡ old → later ≡ max now t → said ≡ choice (pos later) slots → said ≡ None
      → Makes {A = A} old (Dispatch t) (served_of ms later inflight) Nothing
  makes_nothing {ms} {slots} {asked} {now} {inflight} {served} {old} t kept view at choice_is none =
      subst (λ n. Makes {A = A} old (Dispatch t) (served_of ms n inflight) Nothing) (sym at)
      (makes {A = A} ms now inflight view (stepped_none ms slots asked now t inflight served kept (ap (λ n. choice (pos n) slots) (sym at) ∙ sym choice_is ∙ none)) refl refl)

  pub chosen : {ms : List Standing} {slots : List (Option Tags)} {asked now later inflight served e : ℕ} {phase : Phase} {said : Option (ℕ × Phase)} (t : ℕ) → IsServed ms slots asked now inflight served → served < inflight → later ≡ max now t → said ≡ choice (pos later) slots → said ≡ Some (e, phase)
      → Chosen A (parts ms) now inflight t e phase
  chosen {ms} {slots} {now} {inflight} {e} {phase} t kept free at choice_is some =
      let is : choice (pos (max now t)) slots ≡ Some (e, phase) = ap (λ n. choice (pos n) slots) (sym at) ∙ sym choice_is ∙ some in
      let order = in_order (total (parts ms)) (parts ms) kept.server.each in
      step_chosen (parts ms) now inflight t e phase order.0 order.1 (let c = kept.server.counted in omega arith) (ap (choice (pos (max now t))) (sym kept.server.firsts) ∙ is)

  pub chosen_within : {now t inflight e : ℕ} {phase : Phase} (ms : List Standing) → Chosen A (parts ms) now inflight t e phase → e < length ms
  chosen_within {e} ms ch = subst (λ n. e < n) (length-map ms (λ (x : Standing). x.part)) ch.within

  -- what the pick asks
  pub pick_waiting : {now t inflight e : ℕ} {phase : Phase} {m : Standing} (ms : List Standing) → Chosen A (parts ms) now inflight t e phase → e < length ms → m ≡ get_or ms e m → 0 < length m.part.waiting
  pick_waiting {now} {t} {inflight} {e} {phase} {m} ms ch lt at = some_waits (parts ms) now t inflight e phase m.part ch (part_there ms e m lt at)

  pub pick_range : {ms : List Standing} {slots : List (Option Tags)} {asked now t inflight served e : ℕ} {phase : Phase} {m : Standing} → IsServed ms slots asked now inflight served → Chosen A (parts ms) now inflight t e phase → e < length ms → m ≡ get_or ms e m → TagsInRange (part_picked phase m.part)
  pick_range {ms} {slots} {asked} {now} {t} {inflight} {served} {e} {phase} {m} kept ch lt at = pick_in_range (parts ms) slots asked now t inflight served e phase m.part kept.server ch (part_there ms e m lt at)

  -- what the call leaves
  pub active : {ms : List Standing} {slots : List (Option Tags)} {asked now t inflight served e : ℕ} {phase : Phase} → IsServed ms slots asked now inflight served → Chosen A (parts ms) now inflight t e phase → IsActive slots e
  active {ms} {slots} {asked} {now} {t} {inflight} {served} {e} {phase} kept ch = present_head (parts ms) slots asked now t inflight served e phase kept.server ch

  pub first_range : {ms : List Standing} {slots : List (Option Tags)} {asked now t inflight served e : ℕ} {phase : Phase} {m m' : Standing} {seat : Seat} → IsServed ms slots asked now inflight served → Chosen A (parts ms) now inflight t e phase → e < length ms → m ≡ get_or ms e m → Picks m m' phase seat → IsSlotInRange (head_tags m'.part.waiting)
  first_range {ms} {phase} {m} {m'} kept ch lt at picks =
      let q : m'.part ≡ part_picked phase m.part = ap (λ (x : Standing). x.part) picks.standing in
      subst (λ (p : Part). IsSlotInRange (head_tags p.waiting)) (sym q) (head_in_range (part_picked phase m.part) (pick_range kept ch lt at))

  pub kept_chosen : {ms : List Standing} {slots : List (Option Tags)} {asked asked' now now' t inflight served e : ℕ} {phase : Phase} {m m' : Standing} {seat : Seat} → IsServed ms slots asked now inflight served → served < inflight → Chosen A (parts ms) now inflight t e phase → e < length ms → m ≡ get_or ms e m → Picks m m' phase seat → asked' ≤ now' → IsServed (set ms e m') (set slots e (head_tags m'.part.waiting)) asked' now' inflight (served + 1)
  kept_chosen {ms} {slots} {asked} {asked'} {now} {now'} {t} {inflight} {served} {e} {phase} {m} {m'} kept free ch lt at picks le =
      let q : m'.part ≡ part_picked phase m.part = ap (λ (x : Standing). x.part) picks.standing in
      let r : m'.inflight ≡ m.inflight = ap (λ (x : Standing). x.inflight) picks.standing in
      record {
        server = subst (λ (l : List Part). IsServer l (set slots e (head_tags m'.part.waiting)) asked' now' inflight (served + 1)) (ap (set (parts ms) e) (sym q) ∙ sym (parts_set ms e m'))
            (subst (λ (p : Part). IsServer (set (parts ms) e (part_picked phase m.part)) (set slots e (head_tags p.waiting)) asked' now' inflight (served + 1)) (sym q)
            (kept_picked (parts ms) slots asked asked' now now' t inflight served e phase m.part kept.server free ch (part_there ms e m lt at) le));
        room = members_set (λ (x : Standing). x.inflight ≡ inflight) ms e m' kept.room (r ∙ member_at (λ (x : Standing). x.inflight ≡ inflight) ms e m kept.room lt at);
      }

  stepped_picked : (ms : List Standing) (now t inflight e : ℕ) (phase : Phase) (m m' : Standing) (seat : Seat) → Chosen A (parts ms) now inflight t e phase → e < length ms → m ≡ get_or ms e m → Picks m m' phase seat → Stepped {A = A} (served_of ms now inflight) (Dispatch t) (served_of (set ms e m') (max now t) inflight) (Picked e seat.number phase)
  stepped_picked ms now t inflight e phase m m' seat ch lt at picks =
      let q : m'.part ≡ part_picked phase m.part = ap (λ (x : Standing). x.part) picks.standing in
      let there = part_there ms e m lt at in
      let waiting : m.part.waiting ≡ ch.head ∷ ch.rest = ap (λ (p : Part). p.waiting) there ∙ ch.waiting m.part in
      let same : ch.head.number ≡ seat.number = some_same ch.head.number seat.number (ap first_number (sym waiting) ∙ picks.number) in
      record {
        stepped = ch.stepped m.part true there
            ∙ ap (λ (z : Part). outcome {A = A} (table_of (set (parts ms) e z) (max now t)) (Picked e ch.head.number phase)) (sym q)
            ∙ ap (λ (l : List Part). outcome {A = A} (table_of l (max now t)) (Picked e ch.head.number phase)) (sym (parts_set ms e m'))
            ∙ ap (λ n. outcome {A = A} (table_of (parts (set ms e m')) (max now t)) (Picked e n phase)) same;
        setup = ap (λ l. record { exports = l; inflight = inflight }) (same_setup ms e m m' at (ap (λ (p : Part). p.terms) q ∙ picked_terms phase m.part));
      }
    where
      some_same : {X : Type 0} (a b : X) → Some a ≡ Some b → a ≡ b
      some_same a b e = cc

pub pick_room : {ms : List Standing} {slots : List (Option Tags)} {asked now inflight served : ℕ} {m : Standing} (e : ℕ) → IsServed ms slots asked now inflight served → served < inflight → e < length ms → m ≡ get_or ms e m → length m.part.out < m.inflight
pick_room {ms} {slots} {asked} {now} {inflight} {served} {m} e kept free lt at =
    let room = member_at (λ (x : Standing). x.inflight ≡ inflight) ms e m kept.room lt at in
    subst (λ n. length m.part.out < n) (sym room) (few_out (parts ms) slots asked now inflight served e m.part kept.server free (within_parts ms e lt) (part_there ms e m lt at))

pub pick_numbered : {ms : List Standing} {slots : List (Option Tags)} {asked now inflight served : ℕ} {m : Standing} (e : ℕ) → IsServed ms slots asked now inflight served → e < length ms → m ≡ get_or ms e m → IsNumbered (m.part.out ++ m.part.waiting)
pick_numbered {ms} {m} e kept lt at =
    let one : IsPart (total (parts ms)) m.part = part_at (IsPart (total (parts ms))) (parts ms) e m.part kept.server.each (within_parts ms e lt) (part_there ms e m lt at) in
    one.numbered

-- ---- seats
pub seats_picked : {phase : Phase} {m m' : Standing} {seat : Seat} (ms : List Standing) (e : ℕ) → m ≡ get_or ms e m → Picks m m' phase seat → all_seats (set ms e m') ≡ change_at (λ (these : List Seat). these ++ seat ∷ []) e (all_seats ms)
seats_picked {m} {m'} {seat} ms e at picks = seats_change (λ (these : List Seat). these ++ seat ∷ []) ms e m m' at (ap (λ (x : Standing). x.seats) picks.standing)

pub held_picked : {phase : Phase} {m m' : Standing} {seat : Seat} (ms : List Standing) (e : ℕ) → e < length ms → Picks m m' phase seat → slot_in (get_or (all_seats (set ms e m')) e []) seat.number ≡ Some seat.slot
held_picked {m} {m'} {seat} ms e lt picks =
    ap (λ (l : List Seat). slot_in l seat.number) (seats_there (set ms e m') e m' (subst (λ n. e < n) (sym (length-set ms e m')) lt) (sym (get_or-set_same ms e m' m' lt))) ∙ picks.held

pub makes_picked : {A : Type 0} {now later t inflight e : ℕ} {phase : Phase} {m m' : Standing} {seat : Seat} {old : Served} (ms : List Standing) → served_of ms now inflight ≡ old → later ≡ max now t → Chosen A (parts ms) now inflight t e phase → e < length ms → m ≡ get_or ms e m → Picks m m' phase seat
    → JournalMove {A = A} m.part.terms own.Pick (Some (alone.Picked seat.number)) m.journal m'.journal → Makes {A = A} old (Dispatch t) (served_of (set ms e m') later inflight) (Picked e seat.number phase)
makes_picked {A} {now} {later} {t} {inflight} {e} {phase} {m} {m'} {seat} {old} ms view then ch lt at picks move =
    subst (λ n. Makes {A = A} old (Dispatch t) (served_of (set ms e m') n inflight) (Picked e seat.number phase)) (sym then)
    (makes {A = A} ms now inflight view (stepped_picked A ms now t inflight e phase m m' seat ch lt at picks)
    (moves_own {A = A} ms now (max now t) inflight e phase m m' own.Pick (alone.Picked seat.number) (Picked e seat.number phase) refl lt at move) (seat.slot, seats_picked ms e at picks))

-- ---- how many wait
waits_in_part : (k : ℕ) (p : Part) → length (filter (λ (row : Row). not row.out) (part_rows k p)) ≡ length p.waiting
waits_in_part k p =
    ap length (filter-append (λ (row : Row). not row.out) (map (row_of k true) p.out) (map (row_of k false) p.waiting)
    ∙ ap (λ l. l ++ filter (λ (row : Row). not row.out) (map (row_of k false) p.waiting)) (filter_entries (λ (row : Row). not row.out) k true (λ (entry : Entry). false) (λ entry. refl) p.out ∙ ap (map (row_of k true)) (filter_no (λ (entry : Entry). false) (λ entry. refl) p.out))
    ∙ filter_entries (λ (row : Row). not row.out) k false (λ (entry : Entry). true) (λ entry. refl) p.waiting ∙ ap (map (row_of k false)) (filter_all (λ (entry : Entry). true) (λ entry. refl) p.waiting))
    ∙ length-map p.waiting (row_of k false)

waits_from : (k : ℕ) (ms : List Standing) → length (filter (λ (row : Row). not row.out) (rows_from k (parts ms))) ≡ sum_by (λ (m : Standing). length m.part.waiting) ms
waits_from k [] = refl
waits_from k (m ∷ ms) =
    let a : length (filter (λ (row : Row). not row.out) (part_rows k m.part ++ rows_from (suc k) (parts ms))) ≡ length (filter (λ (row : Row). not row.out) (part_rows k m.part)) + length (filter (λ (row : Row). not row.out) (rows_from (suc k) (parts ms))) =
    ap length (filter-append (λ (row : Row). not row.out) (part_rows k m.part) (rows_from (suc k) (parts ms))) ∙ length-append (filter (λ (row : Row). not row.out) (part_rows k m.part)) (filter (λ (row : Row). not row.out) (rows_from (suc k) (parts ms))) in
    let b = waits_in_part k m.part in
    let c = waits_from (suc k) ms in
    let d = sum_by-cons (λ (x : Standing). length x.part.waiting) m ms in
    omega arith

pub waits_all : (ms : List Standing) (now inflight : ℕ) → sum_by (λ (m : Standing). length m.part.waiting) ms ≡ length (filter (λ (row : Row). not row.out) (served_of ms now inflight).table.rows)
waits_all ms now inflight = sym (waits_from 0 ms)

few_wait : (t : ℕ) (ms : List Standing) → AllParts (IsPart t) (parts ms) → sum_by (λ (m : Standing). length m.part.waiting) ms ≤ length ms * 2 ^ 56
few_wait t [] h = omega arith
few_wait t (m ∷ ms) h =
    let d = sum_by-cons (λ (x : Standing). length x.part.waiting) m ms in
    let n = h.0.waiting in
    let k = h.0.accepted in
    let rest = few_wait t ms h.1 in
    omega arith

pub waits_few : (ms : List Standing) (slots : List (Option Tags)) (asked now inflight served : ℕ) → IsServed ms slots asked now inflight served → sum_by (λ (m : Standing). length m.part.waiting) ms < 2 ^ 63
waits_few ms slots asked now inflight served kept =
    let few : length ms ≤ 64 = subst (λ n. n ≤ 64) (length-map ms (λ (x : Standing). x.part)) kept.server.few in
    let all = few_wait (total (parts ms)) ms kept.server.each in
    omega arith
