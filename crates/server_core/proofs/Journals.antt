-- The journals of a server's exports, from the calls of one export.
use Rattle.std.proofs.Common.{◌≡◌, ℕ, zero, suc, ◌<◌, ◌≤◌, Bool, true, false, Option, Some, Result, Ok, Err, List, [], ◌∷◌, ◌++◌, ◌+◌, map, filter, length, set, get_or, refl, sym, ◌∙◌, ap, subst, arith}
use Rattle.std.specs.Prelude.{slice_get}
use Rattle.std.proofs.lemmas.List.{map-set, append-nil}
use Rattle.std.proofs.lemmas.List.Elements.{filter-append}
use Rattle.std.proofs.lemmas.Bool.Decides.{nat_tests}
use Rattle.std.proofs.lemmas.Option.{same_Some}
use Rattle.nbd_wire.specs.Grammar.{RequestMessage}
use Rattle.nbd_commands.specs.Terms.{Terms}
use Rattle.tag_clock.specs.declared.Phase.{Phase}
use Rattle.lone_export.specs.Alone.{Job}
use Rattle.lone_export.specs.Lone.{step_answer_of_attach}
use Rattle.lone_export.specs.declared.refusal.NotAttached.{NotAttached}
use Rattle.lone_export.specs.declared.refusal.NotAttached.TheVariants.{Refused, NoMemory}
use Rattle.lone_export.specs.declared.refusal.AttachRefusal.TheVariants as attaching
use Rattle.lone_export.specs.declared.refusal.Arrived.{Arrived}
use Rattle.lone_export.specs.declared.refusal.Arrived.TheVariants as arrival
use Rattle.lone_export.specs.declared.refusal.ArriveRefusal.{ArriveRefusal as ArriveRefusalAlone}
use Rattle.lone_export.specs.declared.refusal.ArriveRefusal.TheVariants as arriving
use Rattle.lone_export.specs.declared.step.Step.{Step}
use Rattle.lone_export.specs.declared.step.Step.TheVariants as own
use Rattle.lone_export.specs.declared.step.StepAnswer.{StepAnswer}
use Rattle.lone_export.specs.declared.step.StepAnswer.TheVariants as alone
use Rattle.export_cell.specs.Journal.{Journal, Cell, JournalMove, IsJournal, advanced, surplus, noted}
use Rattle.server_table.specs.declared.event.Answer.{Answer}
use Rattle.server_table.specs.declared.event.Answer.TheVariants as said
use Rattle.server_table.specs.Answers.{as_answer}
use Rattle.server_table.specs.Shares.{as_alone}
use Rattle.server_table.specs.Table.{Side, job_of, part, waits_in, is_out_in}
use Rattle.server_table.specs.Parts.{Entry, Part, row_of, rows_from, table_of, alone_of, job_of_entry}
use Rattle.server_table.proofs.Arrive.{waiting_rows}
use Rattle.server_table.proofs.Rows.{side_at, filter_only, filter_entries, filter_all, filter_no}
use Rattle.server_core.specs.Here.{attached, refusal_here}
use Rattle.server_core.specs.Members.{Standing}
use Rattle.server_core.specs.Served.{Served, parts, journals_of, served_of, answer_of_attach, answer_of_arrive}
use Rattle.server_core.specs.Journals.{CellMoves, IsCellOf}
use Rattle.server_core.proofs.Served.{within_parts, part_there}
use Rattle.server_core.proofs.Tagged.{exports_there}

-- ---- one place of a list
journal_there : (ms : List Standing) (e : ℕ) (m : Standing) (x : Journal) → e < length ms → m ≡ get_or ms e m → slice_get (journals_of ms) e ≡ Some x → m.journal ≡ x
journal_there [] e m x lt at is = absurd (omega arith)
journal_there (y ∷ ys) zero m x lt at is = ap (λ (z : Standing). z.journal) at ∙ same_Some y.journal x is
journal_there (y ∷ ys) (suc e) m x lt at is = journal_there ys e m x (omega arith) at is

terms_there : (ms : List Standing) (e : ℕ) (m : Standing) (x : Terms) → e < length ms → m ≡ get_or ms e m → slice_get (map (λ (p : Part). p.terms) (parts ms)) e ≡ Some x → m.part.terms ≡ x
terms_there [] e m x lt at is = absurd (omega arith)
terms_there (y ∷ ys) zero m x lt at is = ap (λ (z : Standing). z.part.terms) at ∙ same_Some y.part.terms x is
terms_there (y ∷ ys) (suc e) m x lt at is = terms_there ys e m x (omega arith) at is

in_set : {X : Type 0} (xs : List X) (e : ℕ) (x y : X) → slice_get (set xs e x) e ≡ Some y → x ≡ y
in_set [] e x y is = absurd (cc)
in_set (z ∷ zs) zero x y is = same_Some x y is
in_set (z ∷ zs) (suc e) x y is = in_set zs e x y is

beside_set : {X : Type 0} (xs : List X) (e k : ℕ) (x : X) → (k ≡ e → ⊥) → slice_get (set xs e x) k ≡ slice_get xs k
beside_set [] e k x ne = refl
beside_set (z ∷ zs) zero zero x ne = absurd (ne refl)
beside_set (z ∷ zs) zero (suc k) x ne = refl
beside_set (z ∷ zs) (suc e) zero x ne = refl
beside_set (z ∷ zs) (suc e) (suc k) x ne = beside_set zs e k x (λ is. ne (ap suc is))

not_there : {X : Type 0} (xs : List X) (e : ℕ) (x : X) → length xs ≤ e → slice_get xs e ≡ Some x → ⊥
not_there [] e x le is = absurd (cc)
not_there (z ∷ zs) zero x le is = absurd (omega arith)
not_there (z ∷ zs) (suc e) x le is = not_there zs e x (omega arith) is

pub set_twice : {X : Type 0} (xs : List X) (e : ℕ) (x y : X) → set (set xs e x) e y ≡ set xs e y
set_twice [] e x y = refl
set_twice (z ∷ zs) zero x y = refl
set_twice (z ∷ zs) (suc e) x y = ap (λ l. z ∷ l) (set_twice zs e x y)

pub journals_set : (ms : List Standing) (e : ℕ) (m : Standing) → journals_of (set ms e m) ≡ set (journals_of ms) e m.journal
journals_set ms e m = map-set (λ (x : Standing). x.journal) ms e m

-- ---- a journal moves, and the others stay
module _ {A : Type 0} where
  pub moves : (ms : List Standing) (now inflight e : ℕ) (m : Standing) (after : Journal) (step : Step A) (new : Served) (answer : Answer A) → e < length ms → m ≡ get_or ms e m → new.journals ≡ set (journals_of ms) e after → JournalMove m.part.terms step (as_alone answer) m.journal after → CellMoves (served_of ms now inflight) e step new answer
  moves ms now inflight e m after step new answer lt at is move = record {
    moved = λ terms before last is_terms is_before is_last.
        subst (λ (t : Terms). JournalMove t step (as_alone answer) before last) (terms_there ms e m terms lt at is_terms)
        (subst (λ (b : Journal). JournalMove m.part.terms step (as_alone answer) b last) (journal_there ms e m before lt at is_before)
        (subst (λ (a : Journal). JournalMove m.part.terms step (as_alone answer) m.journal a) (in_set (journals_of ms) e after last (ap (λ l. slice_get l e) (sym is) ∙ is_last)) move));
    others = λ k ne. ap (λ l. slice_get l k) is ∙ beside_set (journals_of ms) e k after ne;
  }

  -- there is no such export
  pub absent : (ms : List Standing) (now inflight e : ℕ) (step : Step A) (answer : Answer A) → length ms ≤ e → CellMoves (served_of ms now inflight) e step (served_of ms now inflight) answer
  absent ms now inflight e step answer le = record {
    moved = λ terms before last is_terms is_before is_last. absurd (not_there (served_of ms now inflight).setup.exports e terms (subst (λ n. n ≤ e) (sym (exports_there ms now inflight)) le) is_terms);
    others = λ k ne. refl;
  }

  -- nothing was done
  pub not_out : (old new : Served) (e n : ℕ) → new ≡ old → CellMoves {A = A} old e (own.Perform n true) new said.NotOut
  not_out old new e n same = record {
    moved = λ terms before last is_terms is_before is_last. same_Some last before (sym is_last ∙ ap (λ (v : Served). slice_get v.journals e) same ∙ is_before);
    others = λ k ne. ap (λ (v : Served). slice_get v.journals k) same;
  }

  alone_again : (e : ℕ) (phase : Phase) (a : StepAnswer A) → as_alone (as_answer e phase a) ≡ Some a
  alone_again e phase (alone.Session n) = refl
  alone_again e phase (alone.Accepted n tag) = refl
  alone_again e phase (alone.Answered error) = refl
  alone_again e phase (alone.Picked n) = refl
  alone_again e phase alone.Nothing = refl
  alone_again e phase (alone.Performed memory) = refl
  alone_again e phase (alone.Reply reply) = refl
  alone_again e phase alone.Empty = refl
  alone_again e phase alone.End = refl
  alone_again e phase alone.Left = refl
  alone_again e phase alone.Dropped = refl
  alone_again e phase alone.NotOpen = refl
  alone_again e phase alone.Worn = refl
  alone_again e phase alone.Full = refl
  alone_again e phase alone.Hold = refl
  alone_again e phase alone.NotOut = refl
  alone_again e phase alone.Retuned = refl
  alone_again e phase alone.Waiting = refl

  -- a call of one export that is an own step
  pub moves_own : (ms : List Standing) (now now' inflight e : ℕ) (phase : Phase) (m m' : Standing) (step : Step A) (a : StepAnswer A) (answer : Answer A) → as_answer e phase a ≡ answer → e < length ms → m ≡ get_or ms e m → JournalMove m.part.terms step (Some a) m.journal m'.journal → CellMoves (served_of ms now inflight) e step (served_of (set ms e m') now' inflight) answer
  moves_own ms now now' inflight e phase m m' step a answer is lt at move =
      subst (CellMoves (served_of ms now inflight) e step (served_of (set ms e m') now' inflight)) is
      (moves ms now inflight e m m'.journal step (served_of (set ms e m') now' inflight) (as_answer e phase a) lt at (journals_set ms e m')
      (subst (λ (o : Option (StepAnswer A)). JournalMove m.part.terms step o m.journal m'.journal) (sym (alone_again e phase a)) move))

  -- ---- an attach
  attach_alone : (e : ℕ) (r : Result ℕ NotAttached) → as_alone (answer_of_attach {A = A} (attached e r)) ≡ step_answer_of_attach r
  attach_alone e (Ok n) = refl
  attach_alone e (Err (Refused attaching.Worn)) = refl
  attach_alone e (Err (Refused attaching.Full)) = refl
  attach_alone e (Err NoMemory) = refl

  pub moves_attach : (ms : List Standing) (now inflight e : ℕ) (m m' : Standing) (r : Result ℕ NotAttached) → e < length ms → m ≡ get_or ms e m → JournalMove {A = A} m.part.terms own.Attach (step_answer_of_attach r) m.journal m'.journal → CellMoves {A = A} (served_of ms now inflight) e own.Attach (served_of (set ms e m') now inflight) (answer_of_attach (attached e r))
  moves_attach ms now inflight e m m' r lt at move =
      moves ms now inflight e m m'.journal own.Attach (served_of (set ms e m') now inflight) (answer_of_attach (attached e r)) lt at (journals_set ms e m')
      (subst (λ (o : Option (StepAnswer A)). JournalMove m.part.terms own.Attach o m.journal m'.journal) (sym (attach_alone e r)) move)

-- ---- an arrival: the journal moved once when its room was made, and once when it came
module _ (A : Type 0) where
  pub arrival_moves : (terms : Terms) (old mid new : Journal) (s t : ℕ) (q : RequestMessage) (a : Arrived) → mid ≡ advanced terms (surplus (length q.payload) old.log) old → new ≡ noted (own.Arrive s t q) mid
      → JournalMove {A = A} terms (own.Arrive s t q) (as_alone (answer_of_arrive {A = A} (Ok a))) old new
  arrival_moves terms old mid new s t q (arrival.Accepted n tag) room is = is ∙ ap (noted (own.Arrive s t q)) room
  arrival_moves terms old mid new s t q (arrival.Answered error) room is = is ∙ ap (noted (own.Arrive s t q)) room

  -- one that is refused moves none
  pub refused_moves : (terms : Terms) (old new : Journal) (s t : ℕ) (q : RequestMessage) (x : ArriveRefusalAlone) → new ≡ old
      → JournalMove {A = A} terms (own.Arrive s t q) (as_alone (answer_of_arrive {A = A} (Err (record { refusal = refusal_here x; request = q })))) old new
  refused_moves terms old new s t q arriving.NotOpen is = is
  refused_moves terms old new s t q arriving.Worn is = is
  refused_moves terms old new s t q arriving.Hold is = is

-- ---- the cell of an export
pub terms_at : (ms : List Standing) (e : ℕ) (m : Standing) → e < length ms → m ≡ get_or ms e m → slice_get (map (λ (p : Part). p.terms) (parts ms)) e ≡ Some m.part.terms
terms_at [] e m lt at = absurd (omega arith)
terms_at (y ∷ ys) zero m lt at = ap (λ (z : Standing). Some z.part.terms) (sym at)
terms_at (y ∷ ys) (suc e) m lt at = terms_at ys e m (omega arith) at

pub journal_at : (ms : List Standing) (e : ℕ) (m : Standing) → e < length ms → m ≡ get_or ms e m → slice_get (journals_of ms) e ≡ Some m.journal
journal_at [] e m lt at = absurd (omega arith)
journal_at (y ∷ ys) zero m lt at = ap (λ (z : Standing). Some z.journal) (sym at)
journal_at (y ∷ ys) (suc e) m lt at = journal_at ys e m (omega arith) at

jobs_again : (e : ℕ) (b : Bool) (entries : List Entry) → map job_of (map (row_of e b) entries) ≡ map job_of_entry entries
jobs_again e b [] = refl
jobs_again e b (x ∷ xs) = ap (λ (l : List Job). job_of_entry x ∷ l) (jobs_again e b xs)

out_rows : (ps : List Part) (e k i : ℕ) (p : Part) → e ≡ k + i → i < length ps → p ≡ get_or ps i p → filter (is_out_in e) (rows_from k ps) ≡ map (row_of e true) p.out
out_rows ps e k i p is lt at =
    filter_only e (is_out_in e) (λ row ne. grind (arith, nat_tests)) k i ps p is lt at
    ∙ filter-append (is_out_in e) (map (row_of e true) p.out) (map (row_of e false) p.waiting)
    ∙ ap (λ l. l ++ filter (is_out_in e) (map (row_of e false) p.waiting)) (filter_entries (is_out_in e) e true (λ entry. true) (λ entry. grind (arith, nat_tests)) p.out ∙ ap (map (row_of e true)) (filter_all (λ (entry : Entry). true) (λ entry. refl) p.out))
    ∙ ap (λ l. map (row_of e true) p.out ++ l) (filter_entries (is_out_in e) e false (λ entry. false) (λ entry. grind (arith, nat_tests)) p.waiting ∙ ap (map (row_of e false)) (filter_no (λ (entry : Entry). false) (λ entry. refl) p.waiting))
    ∙ append-nil (map (row_of e true) p.out)

-- the state of an export is what the table has of it
pub live_is : (ps : List Part) (now e : ℕ) (p : Part) → e < length ps → p ≡ get_or ps e p → alone_of p ≡ part e (table_of ps now)
live_is ps now e p lt at =
    let w : map job_of_entry p.waiting ≡ map job_of (filter (waits_in e) (rows_from 0 ps)) = sym (ap (map job_of) (waiting_rows ps e 0 e p (omega arith) lt at) ∙ jobs_again e false p.waiting) in
    let o : map job_of_entry p.out ≡ map job_of (filter (is_out_in e) (rows_from 0 ps)) = sym (ap (map job_of) (out_rows ps e 0 e p (omega arith) lt at) ∙ jobs_again e true p.out) in
    ap (λ (l : List Job). record (alone_of p) { waiting = l }) w
    ∙ ap (λ (l : List Job). record (alone_of p) { waiting = map job_of (filter (waits_in e) (rows_from 0 ps)); out = l }) o
    ∙ ap (λ (x : Side). record { image = x.image; waiting = map job_of (filter (waits_in e) (rows_from 0 ps)); out = map job_of (filter (is_out_in e) (rows_from 0 ps)); next = x.next; last = x.last_l; rates = x.rates; sessions = x.sessions; count = x.count }) (sym (side_at ps now e p lt at))

pub cell_of_export : (ms : List Standing) (now inflight e : ℕ) (m : Standing) (cell : Cell) → e < length ms → m ≡ get_or ms e m → m.inflight ≡ inflight → cell.live.terms ≡ m.part.terms → cell.live.inflight ≡ m.inflight → cell.live.state ≡ alone_of m.part → cell.journal ≡ m.journal → IsJournal cell.live cell.journal → IsCellOf (served_of ms now inflight) e cell
cell_of_export ms now inflight e m cell lt at room terms few live journal kept = record {
  terms = terms_at ms e m lt at ∙ ap Some (sym terms);
  inflight = few ∙ room;
  live = live ∙ live_is (parts ms) now e m.part (within_parts ms e lt) (part_there ms e m lt at);
  journal = journal_at ms e m lt at ∙ ap Some (sym journal);
  kept = kept;
}
