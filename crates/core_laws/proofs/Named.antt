-- An event that names an export is an own step of that export, and leaves the parts of the others.
use Rattle.std.proofs.Common.{◌≡◌, ◌≢◌, ℕ, ◌+◌, ◌<◌, ◌^◌, Bool, true, false, not, ◌&&◌, eqb, nat_le, ◌==◌, List, [], ◌∷◌, ◌++◌, length, filter, find, slice_get, Option, Some, None, option_map, if◌then◌else◌, MatchOption, MatchBool, refl, sym, subst, ap, ◌∙◌, arith}
use Rattle.std.proofs.lemmas.Bool.Decides.{nat_tests}
use Rattle.nbd_wire.specs.Grammar.{RequestMessage, ReplyMessage}
use Rattle.server_table.specs.declared.event.Event.{Event}
use Rattle.server_table.specs.declared.event.Event.TheVariants.{Attach, Arrive, Dispatch, Perform, Take, Leave, Gone, Retune}
use Rattle.server_table.specs.declared.event.Answer.{Answer}
use Rattle.server_table.specs.declared.event.Answer.TheVariants as said
use Rattle.lone_export.specs.declared.step.Step.{Step}
use Rattle.lone_export.specs.declared.step.Step.TheVariants as own
use Rattle.lone_export.specs.declared.step.StepAnswer.{StepAnswer}
use Rattle.lone_export.specs.declared.step.StepAnswer.TheVariants as alone
use Rattle.nbd_commands.specs.Terms.{Terms}
use Rattle.nbd_commands.specs.Verdict.{verdict_of}
use Rattle.nbd_commands.specs.Meaning.{may_want_memory}
use Rattle.tag_clock.specs.Intervals.{Intervals}
use Rattle.reply_box.specs.Sessions.{Session, is_here, new_session, is_open_at, is_left_at, is_here_at, outbox_at, post_at, take_at, leave_at, drop_at}
use Rattle.lone_export.specs.Alone.{Alone, Moved, own_step, outstanding, accepted, refused, done, undone, stays, moves}
use Rattle.server_table.specs.Table.{Row, Side, Table, Setup, side, waits_in, is_out_in, job_of, part, shifted, put}
use Rattle.server_table.specs.Steps.{Outcome, outcome, changed, with_sessions, with_rates, is_out_row, outstanding_in, refused_in, new_row, with_last, accepted_in, done_in, undone_in, done_side, undone_side, step, entered_in, seated}
use Rattle.server_table.specs.Shares.{as_alone, is_made, mark_of, own_of}
use Rattle.lone_export.proofs.Cases.{if_both, if_one, if_told, some_one, some_told, some_both}
use Rattle.std.proofs.lemmas.List.{map-append, length-map}
use Rattle.core_laws.proofs.Parts.{made, waits_here, out_here, part_other, part_own, part_shifted, length-shifted, put_own, put_other, count_split, find_job, waits_kept, out_kept, out_removed}

same_number : (e : ℕ) → eqb e e ≡ true
same_number e = grind (arith, nat_tests)

other_number : (e f : ℕ) → e ≢ f → eqb f e ≡ false
other_number e f differ = grind (arith, nat_tests, differ)

-- ---- the part of the export itself

-- the outstanding requests and replies are the same in the table and alone
outstanding_same : (e s : ℕ) (table : Table) → outstanding_in e s table ≡ outstanding (part e table) s
outstanding_same e s table = ap (λ n. n + length (outbox_at (side table e).sessions s)) (count_split e s table.rows)

waits_same : (e : ℕ) (table : Table) → length (filter (waits_in e) table.rows) ≡ length (part e table).waiting
waits_same e table = sym (length-map (filter (waits_in e) table.rows) job_of)

fits_accepted : (A : Type 0) (e s t : ℕ) (q : RequestMessage) (table : Table) → e < length table.sides → part e (entered_in e s t q table) ≡ (accepted {A = A} (part e table) s t q).state
fits_accepted A e s t q table lt =
    let row : Row = new_row e s t q (side table e) in
    part_own e table (put row table.rows) (with_last row) lt
    ∙ rw (
      put_own (waits_in e) row (λ x h. (waits_here e x h).0) (rw (same_number e) refl) table.rows,
      map-append job_of (filter (waits_in e) table.rows) (row ∷ []),
      put_other (is_out_in e) row e (λ x h. (out_here e x h).0) (rw (same_number e) refl) table.rows,
    ) refl

may_want : (memory : Bool) (q : RequestMessage) → not memory && may_want_memory q ≡ true → may_want_memory q ≡ true
may_want true q h = absurd (grind (arith, h))
may_want false q h = h

module _ {A : Type 0} where
  -- what happened is a step of export e alone, or nothing where no memory was found
  record Fits (e : ℕ) (table : Table) (new : Outcome A) (moved : Moved A) : Type 0 where
    is : MatchBool (is_made new.answer) ((part e new.table ≡ moved.state) × (as_alone new.answer ≡ Some moved.answer)) (part e new.table ≡ part e table)

  -- what happened is the own step that it shows, or leaves the part
  abbrev pub Agrees : Terms → ℕ → Table → Event A → Outcome A → Type 0
  Agrees terms e table event new =
      MatchOption (own_of e event new.answer) (part e new.table ≡ part e table)
      (λ one. (part e new.table ≡ (own_step terms (part e table) one).state) × (as_alone new.answer ≡ Some (own_step terms (part e table) one).answer))

  -- by the events that name an export: e itself, or another
  agrees_own : (terms : Terms) (e : ℕ) (table : Table) (new : Outcome A) (one : Step A) → Fits e table new (own_step terms (part e table) one) → MatchOption (if eqb e e && is_made new.answer then Some one else None) (part e new.table ≡ part e table) (λ one. (part e new.table ≡ (own_step terms (part e table) one).state) × (as_alone new.answer ≡ Some (own_step terms (part e table) one).answer))
  agrees_own terms e table new one fits = rw (same_number e) (go (is_made new.answer) refl)
    where
      go : (b : Bool) → is_made new.answer ≡ b → MatchOption (if b then Some one else None) (part e new.table ≡ part e table) (λ one. (part e new.table ≡ (own_step terms (part e table) one).state) × (as_alone new.answer ≡ Some (own_step terms (part e table) one).answer))
      go true h = rw h at fits.is
      go false h = rw h at fits.is

  pub agrees_other : (terms : Terms) (e f : ℕ) (table : Table) (new : Outcome A) (one : Step A) → e ≢ f → part e new.table ≡ part e table → MatchOption (if eqb f e && is_made new.answer then Some one else None) (part e new.table ≡ part e table) (λ one. (part e new.table ≡ (own_step terms (part e table) one).state) × (as_alone new.answer ≡ Some (own_step terms (part e table) one).answer))
  agrees_other terms e f table new one differ same = rw (other_number e f differ) same

  -- ---- the parts of the others

  record Leaves (e : ℕ) (table : Table) (new : Outcome A) : Type 0 where
    same : part e new.table ≡ part e table

  leaves_all : (e : ℕ) (table : Table) (answer : Answer A) → Leaves e table (outcome table answer)
  leaves_all e table answer = record { same = refl }

  leaves_side : (e f : ℕ) (table : Table) (change : Side → Side) (answer : Answer A) → e ≢ f → Leaves e table (outcome (changed f table table.rows change) answer)
  leaves_side e f table change answer differ = record { same = part_other e f table table.rows change differ refl refl }

  leaves_accepted : (e f s t u : ℕ) (q : RequestMessage) (table : Table) → e ≢ f → Leaves e table (accepted_in f s t q (shifted f u table))
  leaves_accepted e f s t u q table differ =
      let moved : Table = shifted f u table in
      let row : Row = new_row f s t q (side moved f) in
      record {
        same =
            part_other e f moved (put row moved.rows) (with_last row) differ
            (put_other (waits_in e) row e (λ x h. (waits_here e x h).0) (rw (other_number e f differ) refl) moved.rows)
            (put_other (is_out_in e) row e (λ x h. (out_here e x h).0) (rw (other_number e f differ) refl) moved.rows)
            ∙ part_shifted e f u table;
      }

  leaves_done : (e f : ℕ) (table : Table) (row : Row) → e ≢ f → Leaves e table (outcome (done_in f row table) (said.Performed true))
  leaves_done e f table row differ = record { same = part_other e f table (filter (λ other. not (is_out_row f row.number other)) table.rows) (done_side row) differ (waits_kept e f row.number table.rows) (out_kept e f row.number table.rows differ) }

  leaves_undone : (e f : ℕ) (table : Table) (row : Row) → e ≢ f → Leaves e table (outcome (undone_in f row table) (said.Performed false))
  leaves_undone e f table row differ = record { same = part_other e f table (filter (λ other. not (is_out_row f row.number other)) table.rows) (undone_side row) differ (waits_kept e f row.number table.rows) (out_kept e f row.number table.rows differ) }

  -- the export that an event names
  abbrev pub IsNamed : ℕ → Event A → Type 0
  IsNamed f (Attach named) = f ≡ named
  IsNamed f (Arrive named s t q) = f ≡ named
  IsNamed f (Dispatch t) = ⊥
  IsNamed f (Perform named n) = f ≡ named
  IsNamed f (Take named s) = f ≡ named
  IsNamed f (Leave named s) = f ≡ named
  IsNamed f (Gone named s) = f ≡ named
  IsNamed f (Retune named rates) = f ≡ named

  leaves_named : (setup : Setup) (table : Table) (e f : ℕ) (event : Event A) (memory : Bool) → IsNamed f event → e ≢ f → Leaves e table (step setup table event memory)
  leaves_named setup table e f (Attach named) memory is differ =
      let away : e ≢ named = λ x. differ (x ∙ sym is) in
      let P = Leaves e table in
      some_one P (slice_get setup.exports named) (λ terms there.
      if_one P (nat_le (2 ^ 56) (side table named).count) (leaves_all e table _)
      (if_one P (length (filter is_here (side table named).sessions) == 64) (leaves_all e table _)
      (if_one P (not memory) (leaves_all e table _)
      (leaves_side e named table (with_sessions _) _ away)))) (leaves_all e table _)
  leaves_named setup table e f (Arrive named s t q) memory is differ =
      let away : e ≢ named = λ x. differ (x ∙ sym is) in
      let P = Leaves e table in
      some_one P (slice_get setup.exports named) (λ terms there.
      if_one P (not (is_open_at (side table named).sessions s)) (leaves_all e table _)
      (if_one P (nat_le (2 ^ 56) (side table named).count) (leaves_all e table _)
      (if_one P (outstanding_in named s table == terms.window) (leaves_all e table _)
      (if_one P (not memory) (leaves_all e table _)
      (if_one P (not (verdict_of terms q == 0)) (leaves_side e named table (with_sessions _) _ away)
      (if_one P (length (filter (waits_in named) table.rows) == terms.depth) (leaves_side e named table (with_sessions _) _ away)
      (leaves_accepted e named s t t q table away))))))) (leaves_all e table _)
  leaves_named setup table e f (Dispatch t) memory is differ = absurd is
  leaves_named setup table e f (Perform named n) memory is differ =
      let away : e ≢ named = λ x. differ (x ∙ sym is) in
      let P = Leaves e table in
      some_one P (find (is_out_row named n) table.rows) (λ row there.
      if_one P (not memory && may_want_memory row.request) (leaves_undone e named table row away) (leaves_done e named table row away)) (leaves_all e table _)
  leaves_named setup table e f (Take named s) memory is differ =
      let away : e ≢ named = λ x. differ (x ∙ sym is) in
      let P = Leaves e table in
      some_one P (slice_get setup.exports named) (λ terms there.
      if_one P (not (is_here_at (side table named).sessions s)) (leaves_all e table _)
      (some_one P (slice_get (outbox_at (side table named).sessions s) 0) (λ reply h. leaves_side e named table (with_sessions _) _ away)
      (if_one P (is_left_at (side table named).sessions s && outstanding_in named s table == 0) (leaves_all e table _) (leaves_all e table _)))) (leaves_all e table _)
  leaves_named setup table e f (Leave named s) memory is differ =
      let away : e ≢ named = λ x. differ (x ∙ sym is) in
      let P = Leaves e table in
      some_one P (slice_get setup.exports named) (λ terms there.
      if_one P (not (is_open_at (side table named).sessions s)) (leaves_all e table _) (leaves_side e named table (with_sessions _) _ away)) (leaves_all e table _)
  leaves_named setup table e f (Gone named s) memory is differ =
      let away : e ≢ named = λ x. differ (x ∙ sym is) in
      let P = Leaves e table in
      some_one P (slice_get setup.exports named) (λ terms there.
      if_one P (not (is_here_at (side table named).sessions s)) (leaves_all e table _) (leaves_side e named table (with_sessions _) _ away)) (leaves_all e table _)
  leaves_named setup table e f (Retune named rates) memory is differ =
      let away : e ≢ named = λ x. differ (x ∙ sym is) in
      let P = Leaves e table in
      some_one P (slice_get setup.exports named) (λ terms there.
      if_one P (nat_le (2 ^ 56) (side table named).count) (leaves_all e table _)
      (if_one P (not (length (filter (waits_in named) table.rows) == 0)) (leaves_all e table _)
      (if_one P (not memory) (leaves_all e table _) (leaves_side e named table (with_rates rates) _ away)))) (leaves_all e table _)

  pub leaves : (setup : Setup) (table : Table) (e f : ℕ) (event : Event A) (memory : Bool) → IsNamed f event → e ≢ f → part e (step setup table event memory).table ≡ part e table
  leaves setup table e f event memory is differ = (leaves_named setup table e f event memory is differ).same

  -- the same change in the table and alone
  fits_stays : (e : ℕ) (table : Table) (answer : Answer A) (one : StepAnswer A) → as_alone answer ≡ Some one → is_made answer ≡ true → Fits e table (outcome table answer) (stays (part e table) one)
  fits_stays e table answer one told made = record { is = rw made (refl, told) }

  fits_side : (e : ℕ) (table : Table) (change : Side → Side) (state : Alone) (answer : Answer A) (one : StepAnswer A) → as_alone answer ≡ Some one → is_made answer ≡ true → e < length table.sides →
      made (part e table).waiting (part e table).out (record (change (side table e)) { count = (side table e).count + 1 }) ≡ record state { count = state.count + 1 } →
      Fits e table (outcome (changed e table table.rows change) answer) (moves state one)
  fits_side e table change state answer one told is_told lt same = record { is = rw is_told (part_own e table table.rows change lt ∙ same, told) }

  fits_sessions : (e : ℕ) (table : Table) (sessions : List Session) (answer : Answer A) (one : StepAnswer A) → as_alone answer ≡ Some one → is_made answer ≡ true → e < length table.sides → Fits e table (outcome (seated e sessions table) answer) (moves (record (part e table) { sessions = sessions }) one)
  fits_sessions e table sessions answer one told made lt = fits_side e table (with_sessions sessions) (record (part e table) { sessions = sessions }) answer one told made lt refl

  fits_attach : (setup : Setup) (terms : Terms) (table : Table) (e : ℕ) (memory : Bool) → slice_get setup.exports e ≡ Some terms → e < length table.sides → Fits e table (step {A = A} setup table (Attach e) memory) (own_step terms (part e table) own.Attach)
  fits_attach setup terms table e memory there lt =
      let P = Fits e table in
      rw there
      (if_both P (nat_le (2 ^ 56) (side table e).count) (nat_le (2 ^ 56) (side table e).count) refl (fits_stays e table said.Worn alone.Worn refl refl)
      (if_both P (length (filter is_here (side table e).sessions) == 64) (length (filter is_here (side table e).sessions) == 64) refl (fits_stays e table said.Full alone.Full refl refl)
      (if_one (λ new. P new (moves (record (part e table) { sessions = (side table e).sessions ++ new_session ∷ [] }) (alone.Session (length (side table e).sessions)))) (not memory)
      (record { is = refl })
      (fits_sessions e table ((side table e).sessions ++ new_session ∷ []) (said.Session (length (side table e).sessions)) (alone.Session (length (side table e).sessions)) refl refl lt))))

  fits_refused : (e s : ℕ) (q : RequestMessage) (table : Table) (error : ℕ) → e < length table.sides → Fits e table (outcome (refused_in e s q error table) (said.Answered error)) (refused (part e table) s q error)
  fits_refused e s q table error lt = fits_sessions e table (post_at s (record { error = error; cookie = q.head.cookie; content = [] }) (side table e).sessions) (said.Answered error) (alone.Answered error) refl refl lt

  -- the shift before an arrival changes no part
  fits_new : (table : Table) (e s t : ℕ) (q : RequestMessage) → e < length table.sides → Fits e table (accepted_in e s t q (shifted e t table)) (accepted (part e table) s t q)
  fits_new table e s t q lt =
      let moved : Table = shifted e t table in
      let new : Outcome A = accepted_in e s t q moved in
      let both : (part e new.table ≡ (accepted {A = A} (part e moved) s t q).state) × (as_alone new.answer ≡ Some (accepted {A = A} (part e moved) s t q).answer) = (fits_accepted A e s t q moved (rw (length-shifted e t table) lt), refl) in
      record { is = subst (λ (a : Alone). (part e new.table ≡ (accepted {A = A} a s t q).state) × (as_alone new.answer ≡ Some (accepted {A = A} a s t q).answer)) (part_shifted e e t table) both }

  fits_arrive : (setup : Setup) (terms : Terms) (table : Table) (e s t : ℕ) (q : RequestMessage) (memory : Bool) → slice_get setup.exports e ≡ Some terms → e < length table.sides → Fits e table (step {A = A} setup table (Arrive e s t q) memory) (own_step terms (part e table) (own.Arrive s t q))
  fits_arrive setup terms table e s t q memory there lt =
      let P = Fits e table in
      rw there
      (if_both P (not (is_open_at (side table e).sessions s)) (not (is_open_at (side table e).sessions s)) refl (fits_stays e table said.NotOpen alone.NotOpen refl refl)
      (if_both P (nat_le (2 ^ 56) (side table e).count) (nat_le (2 ^ 56) (side table e).count) refl (fits_stays e table said.Worn alone.Worn refl refl)
      (if_both P (outstanding_in e s table == terms.window) (outstanding (part e table) s == terms.window) (ap (λ n. n == terms.window) (outstanding_same e s table)) (fits_stays e table said.Hold alone.Hold refl refl)
      (if_one (λ new. P new (if not (verdict_of terms q == 0) then refused (part e table) s q (verdict_of terms q) else (if length (part e table).waiting == terms.depth then refused (part e table) s q 5 else accepted (part e table) s t q))) (not memory)
      (record { is = refl })
      (if_both P (not (verdict_of terms q == 0)) (not (verdict_of terms q == 0)) refl (fits_refused e s q table (verdict_of terms q) lt)
      (if_both P (length (filter (waits_in e) table.rows) == terms.depth) (length (part e table).waiting == terms.depth) (ap (λ n. n == terms.depth) (waits_same e table)) (fits_refused e s q table 5 lt)
      (fits_new table e s t q lt)))))))

  fits_take : (setup : Setup) (terms : Terms) (table : Table) (e s : ℕ) (memory : Bool) → slice_get setup.exports e ≡ Some terms → e < length table.sides → Fits e table (step {A = A} setup table (Take e s) memory) (own_step terms (part e table) (own.Take s))
  fits_take setup terms table e s memory there lt =
      let P = Fits e table in
      let here = is_here_at (side table e).sessions s in
      let oldest = slice_get (outbox_at (side table e).sessions s) 0 in
      rw there
      (if_both P (not here) (not here) refl (fits_stays e table said.NotOpen alone.NotOpen refl refl)
      (some_both P (λ (reply : ReplyMessage). reply) oldest oldest (λ reply. moves (record (part e table) { sessions = take_at s (side table e).sessions }) (alone.Reply reply)) (same_option oldest)
      (λ reply h. fits_sessions e table (take_at s (side table e).sessions) (said.Reply reply) (alone.Reply reply) refl refl lt)
      (if_both P (is_left_at (side table e).sessions s && outstanding_in e s table == 0) (is_left_at (side table e).sessions s && outstanding (part e table) s == 0) (ap (λ n. is_left_at (side table e).sessions s && n == 0) (outstanding_same e s table))
      (fits_stays e table said.End alone.End refl refl)
      (fits_stays e table said.Empty alone.Empty refl refl))))
    where
      same_option : {A : Type 0} (o : Option A) → option_map (λ x. x) o ≡ o
      same_option None = refl
      same_option (Some x) = refl

  fits_leave : (setup : Setup) (terms : Terms) (table : Table) (e s : ℕ) (memory : Bool) → slice_get setup.exports e ≡ Some terms → e < length table.sides → Fits e table (step {A = A} setup table (Leave e s) memory) (own_step terms (part e table) (own.Leave s))
  fits_leave setup terms table e s memory there lt =
      rw there
      (if_both (Fits e table) (not (is_open_at (side table e).sessions s)) (not (is_open_at (side table e).sessions s)) refl (fits_stays e table said.NotOpen alone.NotOpen refl refl)
      (fits_sessions e table (leave_at s (side table e).sessions) said.Left alone.Left refl refl lt))

  fits_gone : (setup : Setup) (terms : Terms) (table : Table) (e s : ℕ) (memory : Bool) → slice_get setup.exports e ≡ Some terms → e < length table.sides → Fits e table (step {A = A} setup table (Gone e s) memory) (own_step terms (part e table) (own.Gone s))
  fits_gone setup terms table e s memory there lt =
      rw there
      (if_both (Fits e table) (not (is_here_at (side table e).sessions s)) (not (is_here_at (side table e).sessions s)) refl (fits_stays e table said.NotOpen alone.NotOpen refl refl)
      (fits_sessions e table (drop_at s (side table e).sessions) said.Dropped alone.Dropped refl refl lt))

  fits_retune : (setup : Setup) (terms : Terms) (table : Table) (e : ℕ) (rates : Intervals) (memory : Bool) → slice_get setup.exports e ≡ Some terms → e < length table.sides → Fits e table (step {A = A} setup table (Retune e rates) memory) (own_step terms (part e table) (own.Retune rates))
  fits_retune setup terms table e rates memory there lt =
      let P = Fits e table in
      rw there
      (if_both P (nat_le (2 ^ 56) (side table e).count) (nat_le (2 ^ 56) (side table e).count) refl (fits_stays e table said.Worn alone.Worn refl refl)
      (if_both P (not (length (filter (waits_in e) table.rows) == 0)) (not (length (part e table).waiting == 0)) (ap (λ n. not (n == 0)) (waits_same e table)) (fits_stays e table said.Waiting alone.Waiting refl refl)
      (if_one (λ new. P new (moves (record (part e table) { rates = rates }) alone.Retuned)) (not memory)
      (record { is = refl })
      (fits_side e table (with_rates rates) (record (part e table) { rates = rates }) said.Retuned alone.Retuned refl refl lt refl))))

  -- a request that is out is performed, by the mark that the answer shows
  fits_undone : (e : ℕ) (table : Table) (row : Row) → e < length table.sides → Fits e table (outcome (undone_in e row table) (said.Performed false)) (moves (undone (part e table) (job_of row)) (alone.Performed false))
  fits_undone e table row lt = record { is = (part_own e table (filter (λ other. not (is_out_row e row.number other)) table.rows) (undone_side row) lt ∙ rw (waits_kept e e row.number table.rows, out_removed e row.number table.rows) refl, refl) }

  fits_done : (e : ℕ) (table : Table) (row : Row) → e < length table.sides → Fits e table (outcome (done_in e row table) (said.Performed true)) (moves (done (part e table) (job_of row)) (alone.Performed true))
  fits_done e table row lt = record { is = (part_own e table (filter (λ other. not (is_out_row e row.number other)) table.rows) (done_side row) lt ∙ rw (waits_kept e e row.number table.rows, out_removed e row.number table.rows) refl, refl) }

  fits_perform : (setup : Setup) (terms : Terms) (table : Table) (e n : ℕ) (memory : Bool) → e < length table.sides → Fits e table (step {A = A} setup table (Perform e n) memory) (own_step terms (part e table) (own.Perform n (mark_of (step {A = A} setup table (Perform e n) memory).answer)))
  fits_perform setup terms table e n memory lt =
      let P = λ (new : Outcome A). Fits e table new (own_step terms (part e table) (own.Perform n (mark_of new.answer))) in
      some_told P (find (is_out_row e n) table.rows) (λ row there.
      if_told P (not memory && may_want_memory row.request)
      (λ h. rw (← find_job e n table.rows, there, may_want memory row.request h) (fits_undone e table row lt))
      (λ h. rw (← find_job e n table.rows, there) (fits_done e table row lt)))
      (λ none. rw (← find_job e n table.rows, none) (fits_stays e table said.NotOut alone.NotOut refl refl))

  pub agrees_named : (setup : Setup) (terms : Terms) (table : Table) (e : ℕ) (event : Event A) (memory : Bool) → slice_get setup.exports e ≡ Some terms → e < length table.sides → IsNamed e event → Agrees terms e table event (step setup table event memory)
  agrees_named setup terms table e event memory there lt is = go event is
    where
      go : (event : Event A) → IsNamed e event → Agrees terms e table event (step setup table event memory)
      go (Attach named) is = subst (λ (k : ℕ). Agrees terms e table (Attach k) (step setup table (Attach k) memory)) is (agrees_own terms e table _ own.Attach (fits_attach setup terms table e memory there lt))
      go (Arrive named s t q) is = subst (λ (k : ℕ). Agrees terms e table (Arrive k s t q) (step setup table (Arrive k s t q) memory)) is (agrees_own terms e table _ (own.Arrive s t q) (fits_arrive setup terms table e s t q memory there lt))
      go (Dispatch t) is = absurd is
      go (Perform named n) is = subst (λ (k : ℕ). Agrees terms e table (Perform k n) (step setup table (Perform k n) memory)) is (agrees_own terms e table _ (own.Perform n (mark_of (step setup table (Perform e n) memory).answer)) (fits_perform setup terms table e n memory lt))
      go (Take named s) is = subst (λ (k : ℕ). Agrees terms e table (Take k s) (step setup table (Take k s) memory)) is (agrees_own terms e table _ (own.Take s) (fits_take setup terms table e s memory there lt))
      go (Leave named s) is = subst (λ (k : ℕ). Agrees terms e table (Leave k s) (step setup table (Leave k s) memory)) is (agrees_own terms e table _ (own.Leave s) (fits_leave setup terms table e s memory there lt))
      go (Retune named rates) is = subst (λ (k : ℕ). Agrees terms e table (Retune k rates) (step setup table (Retune k rates) memory)) is (agrees_own terms e table _ (own.Retune rates) (fits_retune setup terms table e rates memory there lt))
      go (Gone named s) is = subst (λ (k : ℕ). Agrees terms e table (Gone k s) (step setup table (Gone k s) memory)) is (agrees_own terms e table _ (own.Gone s) (fits_gone setup terms table e s memory there lt))
