-- The steps that change one export's sessions alone are its own steps.
use Rattle.std.proofs.Common.{◌≡◌, ℕ, suc, ◌+◌, ◌<◌, Bool, true, false, cond, List, [], ◌∷◌, ◌++◌, map, length, filter, set, get_or, refl, sym, ◌∙◌, ap, arith}
use Rattle.std.specs.Prelude.{not, ◌==◌, ◌&&◌, ◌^◌, nat_le, slice_get}
use Rattle.std.proofs.lemmas.List.{length-map, length-append}
use Rattle.std.proofs.lemmas.List.Elements.{filter-append}
use Rattle.std.proofs.lemmas.Bool.Decides.{nat_tests}
use Rattle.tag_clock.specs.declared.Phase.{Phase}
use Rattle.lone_export.specs.declared.step.Step.TheVariants as own
use Rattle.lone_export.specs.declared.step.StepAnswer.{StepAnswer}
use Rattle.lone_export.specs.declared.step.StepAnswer.TheVariants as alone
use Rattle.nbd_base.specs.Words.{change_at}
use Rattle.reply_box.specs.Sessions.{Session, new_session, is_here, is_open_at, is_left_at, is_here_at, outbox_at, take_at, leave_at, drop_at}
use Rattle.lone_export.specs.Alone.{Job, own_step, outstanding, stays, moves}
use Rattle.server_table.specs.Parts.{Entry, Part, row_of, part_rows, rows_from, side_of, table_of, setup_of, alone_of, job_of_entry}
use Rattle.server_table.specs.declared.event.Event.TheVariants.{Attach, Take, Leave, Gone}
use Rattle.server_table.specs.Table.{Row, Side, side}
use Rattle.server_table.specs.Steps.{outcome, changed, seated, with_sessions, outstanding_in, step}
use Rattle.server_table.specs.Answers.{as_answer}
use Rattle.server_table.specs.Kept.{as_moved}
use Rattle.lone_export.proofs.Cases.{fork, fork_some}
use Rattle.server_table.proofs.Rows.{side_at, terms_at, sides_at, rows_same, set_same, filter_only, filter_entries}

-- another side in the table is another part with the same requests
pub changed_at : (ps : List Part) (now e : ℕ) (p q : Part) (change : Side → Side) → e < length ps → p ≡ get_or ps e p → ((n : ℕ) → part_rows n p ≡ part_rows n q) → record (change (side_of p)) { count = p.count + 1 } ≡ side_of q →
    changed e (table_of ps now) (rows_from 0 ps) change ≡ table_of (set ps e q) now
changed_at ps now e p q change lt at rows side =
    let f : Side → Side = λ side. record (change side) { count = side.count + 1 } in
    ap (λ rs. record { rows = rs; sides = change_at f e (map side_of ps); now = now }) (rows_same 0 e ps p q lt at rows)
    ∙ ap (λ ss. record { rows = rows_from 0 (set ps e q); sides = ss; now = now }) (sides_at f e ps p q lt at side)

module _ {A : Type 0} where
  pub stay : (ps : List Part) (now e : ℕ) (p : Part) (phase : Phase) (said : StepAnswer A) → p ≡ get_or ps e p → outcome (table_of ps now) (as_answer e phase said) ≡ as_moved ps now e p phase (stays (alone_of p) said)
  stay ps now e p phase said at = ap (λ l. outcome (table_of l now) (as_answer e phase said)) (sym (set_same ps e p at))

  pub move : (ps : List Part) (now e : ℕ) (p : Part) (phase : Phase) (sessions : List Session) (said : StepAnswer A) → e < length ps → p ≡ get_or ps e p → outcome (seated e sessions (table_of ps now)) (as_answer e phase said) ≡ as_moved ps now e p phase (moves (record (alone_of p) { sessions = sessions }) said)
  move ps now e p phase sessions said lt at = ap (λ table. outcome table (as_answer e phase said)) (changed_at ps now e p (record p { sessions = sessions; count = p.count + 1 }) (with_sessions sessions) lt at (λ n. refl) refl)

  -- ---- attach
  pub step_attach : (ps : List Part) (now inflight e : ℕ) (p : Part) (phase : Phase) → e < length ps → p ≡ get_or ps e p → step {A = A} (setup_of ps inflight) (table_of ps now) (Attach e) true ≡ as_moved ps now e p phase (own_step p.terms (alone_of p) own.Attach)
  step_attach ps now inflight e p phase lt at =
      rw (terms_at ps inflight e p lt at, side_at ps now e p lt at)
      (fork (as_moved ps now e p phase) (nat_le (2 ^ 56) p.count) (λ h. stay ps now e p phase alone.Worn at)
      (λ h. fork (as_moved ps now e p phase) (length (filter is_here p.sessions) == 64) (λ h. stay ps now e p phase alone.Full at)
      (λ h. move ps now e p phase (p.sessions ++ new_session ∷ []) (alone.Session (length p.sessions)) lt at)))

  -- ---- leave and gone
  pub step_leave : (ps : List Part) (now inflight e s : ℕ) (memory : Bool) (p : Part) (phase : Phase) → e < length ps → p ≡ get_or ps e p → step {A = A} (setup_of ps inflight) (table_of ps now) (Leave e s) memory ≡ as_moved ps now e p phase (own_step p.terms (alone_of p) (own.Leave s))
  step_leave ps now inflight e s memory p phase lt at =
      rw (terms_at ps inflight e p lt at, side_at ps now e p lt at)
      (fork (as_moved ps now e p phase) (not (is_open_at p.sessions s)) (λ h. stay ps now e p phase alone.NotOpen at)
      (λ h. move ps now e p phase (leave_at s p.sessions) alone.Left lt at))

  pub step_gone : (ps : List Part) (now inflight e s : ℕ) (memory : Bool) (p : Part) (phase : Phase) → e < length ps → p ≡ get_or ps e p → step {A = A} (setup_of ps inflight) (table_of ps now) (Gone e s) memory ≡ as_moved ps now e p phase (own_step p.terms (alone_of p) (own.Gone s))
  step_gone ps now inflight e s memory p phase lt at =
      rw (terms_at ps inflight e p lt at, side_at ps now e p lt at)
      (fork (as_moved ps now e p phase) (not (is_here_at p.sessions s)) (λ h. stay ps now e p phase alone.NotOpen at)
      (λ h. move ps now e p phase (drop_at s p.sessions) alone.Dropped lt at))

-- ---- outstanding requests and replies
pub jobs_of : (s : ℕ) (entries : List Entry) → length (filter (λ (entry : Entry). entry.session == s) entries) ≡ length (filter (λ (job : Job). job.session == s) (map job_of_entry entries))
jobs_of s [] = refl
jobs_of s (x ∷ xs) = by_test (x.session == s) (jobs_of s xs)
  where
    by_test : (c : Bool) → length (filter (λ (entry : Entry). entry.session == s) xs) ≡ length (filter (λ (job : Job). job.session == s) (map job_of_entry xs)) → length (cond c (x ∷ filter (λ (entry : Entry). entry.session == s) xs) (filter (λ (entry : Entry). entry.session == s) xs)) ≡ length (cond c (job_of_entry x ∷ filter (λ (job : Job). job.session == s) (map job_of_entry xs)) (filter (λ (job : Job). job.session == s) (map job_of_entry xs)))
    by_test true h = ap suc h
    by_test false h = h

session_row : (e s : ℕ) (b : Bool) (entries : List Entry) → length (filter (λ (row : Row). row.export == e && row.session == s) (map (row_of e b) entries)) ≡ length (filter (λ (job : Job). job.session == s) (map job_of_entry entries))
session_row e s b entries =
    ap length (filter_entries (λ (row : Row). row.export == e && row.session == s) e b (λ (entry : Entry). entry.session == s) (λ entry. grind (arith, nat_tests)) entries)
    ∙ length-map (filter (λ (entry : Entry). entry.session == s) entries) (row_of e b)
    ∙ jobs_of s entries

pub outstanding_at : (ps : List Part) (now e s : ℕ) (p : Part) → e < length ps → p ≡ get_or ps e p → outstanding_in e s (table_of ps now) ≡ outstanding (alone_of p) s
outstanding_at ps now e s p lt at =
    let t : Row → Bool = λ (row : Row). row.export == e && row.session == s in
    let rows : length (filter t (rows_from 0 ps)) ≡ length (filter t (map (row_of e true) p.out)) + length (filter t (map (row_of e false) p.waiting)) =
    ap length (filter_only e t (λ row ne. grind (arith, nat_tests)) 0 e ps p (omega arith) lt at ∙ filter-append t (map (row_of e true) p.out) (map (row_of e false) p.waiting))
    ∙ length-append (filter t (map (row_of e true) p.out)) (filter t (map (row_of e false) p.waiting)) in
    let a = session_row e s true p.out in
    let b = session_row e s false p.waiting in
    let c : length (outbox_at (side (table_of ps now) e).sessions s) ≡ length (outbox_at p.sessions s) = ap (λ (z : Side). length (outbox_at z.sessions s)) (side_at ps now e p lt at) in
    omega arith

module _ {A : Type 0} where
  -- ---- a reply is taken
  pub step_take : (ps : List Part) (now inflight e s : ℕ) (memory : Bool) (p : Part) (phase : Phase) → e < length ps → p ≡ get_or ps e p → step {A = A} (setup_of ps inflight) (table_of ps now) (Take e s) memory ≡ as_moved ps now e p phase (own_step p.terms (alone_of p) (own.Take s))
  step_take ps now inflight e s memory p phase lt at =
      rw (terms_at ps inflight e p lt at, outstanding_at ps now e s p lt at, side_at ps now e p lt at)
      (fork (as_moved ps now e p phase) (not (is_here_at p.sessions s)) (λ h. stay ps now e p phase alone.NotOpen at)
      (λ h. fork_some (as_moved ps now e p phase) (slice_get (outbox_at p.sessions s) 0) (λ reply is. move ps now e p phase (take_at s p.sessions) (alone.Reply reply) lt at)
      (fork (as_moved ps now e p phase) (is_left_at p.sessions s && outstanding (alone_of p) s == 0) (λ h. stay ps now e p phase alone.End at) (λ h. stay ps now e p phase alone.Empty at))))
