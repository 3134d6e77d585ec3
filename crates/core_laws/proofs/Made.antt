-- An event that found no memory leaves the table, so it can be left out.
use Rattle.std.proofs.Common.{◌≡◌, ◌^◌, max, Bool, true, false, not, ◌&&◌, nat_le, ◌==◌, List, [], ◌∷◌, length, filter, find, get_or, drop, slice_get, refl, subst, ap, arith}
use Rattle.server_table.specs.declared.event.Event.{Event}
use Rattle.server_table.specs.declared.event.Event.TheVariants.{Attach, Arrive, Dispatch, Perform, Take, Leave, Gone, Retune}
use Rattle.server_table.specs.declared.event.Answer.{Answer}
use Rattle.nbd_commands.specs.Verdict.{verdict_of}
use Rattle.nbd_commands.specs.Meaning.{may_want_memory}
use Rattle.reply_box.specs.Sessions.{is_here, is_open_at, is_left_at, is_here_at, outbox_at}
use Rattle.server_table.specs.Table.{Table, Setup, side, waits_in, choice}
use Rattle.server_table.specs.Steps.{Outcome, step, is_out_row, outstanding_in, outcome, table_after, answers_of}
use Rattle.server_table.specs.Shares.{is_made}
use Rattle.core_laws.specs.Made.{made_events, made_marks}
use Rattle.lone_export.proofs.Cases.{if_one, some_one}

true_false : {A : Type 0} → true ≡ false → A
true_false e = absurd (grind (arith, e))

module _ {A : Type 0} where
  record Left (table : Table) (new : Outcome A) : Type 0 where
    same : is_made new.answer ≡ false → new.table ≡ table

  as_it_was : (table : Table) (said : Answer A) → Left table (outcome table said)
  as_it_was table said = record { same = λ h. refl }

  left : (setup : Setup) (table : Table) (event : Event A) (memory : Bool) → Left table (step setup table event memory)
  left setup table (Attach named) memory =
      let P = Left table in
      some_one P (slice_get setup.exports named) (λ other h.
      if_one P (nat_le (2 ^ 56) (side table named).count) (as_it_was table _)
      (if_one P (length (filter is_here (side table named).sessions) == 64) (as_it_was table _)
      (if_one P (not memory) (as_it_was table _) (record { same = λ h. true_false h })))) (as_it_was table _)
  left setup table (Arrive named s t q) memory =
      let P = Left table in
      some_one P (slice_get setup.exports named) (λ other h.
      if_one P (not (is_open_at (side table named).sessions s)) (as_it_was table _)
      (if_one P (nat_le (2 ^ 56) (side table named).count) (as_it_was table _)
      (if_one P (outstanding_in named s table == other.window) (as_it_was table _)
      (if_one P (not memory) (as_it_was table _)
      (if_one P (not (verdict_of other q == 0)) (record { same = λ h. true_false h })
      (if_one P (length (filter (waits_in named) table.rows) == other.depth) (record { same = λ h. true_false h }) (record { same = λ h. true_false h }))))))) (as_it_was table _)
  left setup table (Dispatch t) memory =
      some_one (Left table) (choice setup.inflight (record table { now = max table.now t })) (λ chosen h. record { same = λ h. true_false h }) (record { same = λ h. true_false h })
  left setup table (Perform named n) memory =
      let P = Left table in
      some_one P (find (is_out_row named n) table.rows) (λ row h. if_one P (not memory && may_want_memory row.request) (record { same = λ h. true_false h }) (record { same = λ h. true_false h })) (as_it_was table _)
  left setup table (Take named s) memory =
      let P = Left table in
      some_one P (slice_get setup.exports named) (λ other h.
      if_one P (not (is_here_at (side table named).sessions s)) (as_it_was table _)
      (some_one P (slice_get (outbox_at (side table named).sessions s) 0) (λ reply k. record { same = λ h. true_false h })
      (if_one P (is_left_at (side table named).sessions s && outstanding_in named s table == 0) (as_it_was table _) (as_it_was table _)))) (as_it_was table _)
  left setup table (Leave named s) memory =
      let P = Left table in
      some_one P (slice_get setup.exports named) (λ other h. if_one P (not (is_open_at (side table named).sessions s)) (as_it_was table _) (record { same = λ h. true_false h })) (as_it_was table _)
  left setup table (Gone named s) memory =
      let P = Left table in
      some_one P (slice_get setup.exports named) (λ other h. if_one P (not (is_here_at (side table named).sessions s)) (as_it_was table _) (record { same = λ h. true_false h })) (as_it_was table _)
  left setup table (Retune named rates) memory =
      let P = Left table in
      some_one P (slice_get setup.exports named) (λ other h.
      if_one P (nat_le (2 ^ 56) (side table named).count) (as_it_was table _)
      (if_one P (not (length (filter (waits_in named) table.rows) == 0)) (as_it_was table _)
      (if_one P (not memory) (as_it_was table _) (record { same = λ h. true_false h })))) (as_it_was table _)

  pub record LeftOut (setup : Setup) (old : Table) (events : List (Event A)) (marks : List Bool) : Type 0 where
    pub answers : answers_of setup old (made_events events (answers_of setup old events marks)) (made_marks (answers_of setup old events marks) marks) ≡ filter is_made (answers_of setup old events marks)
    pub table : table_after setup old (made_events events (answers_of setup old events marks)) (made_marks (answers_of setup old events marks) marks) ≡ table_after setup old events marks

  pub left_out_from : (setup : Setup) (events : List (Event A)) (table : Table) (marks : List Bool) → LeftOut setup table events marks
  left_out_from setup [] table marks = record { answers = refl; table = refl }
  left_out_from setup (event ∷ events) table marks =
      let new : Outcome A = step setup table event (get_or marks 0 true) in
      go (is_made new.answer) refl (left setup table event (get_or marks 0 true)).same (left_out_from setup events new.table (drop 1 marks))
    where
      new : Outcome A
      new = step setup table event (get_or marks 0 true)

      go : (b : Bool) → is_made new.answer ≡ b → (is_made new.answer ≡ false → new.table ≡ table) → LeftOut setup new.table events (drop 1 marks) → LeftOut setup table (event ∷ events) marks
      go true h same rest = record { answers = rw h (ap (λ (answers : List (Answer A)). new.answer ∷ answers) rest.answers); table = rw h rest.table }
      go false h same rest = record {
        answers = rw h (subst (λ (a : Table). answers_of setup a (made_events events (answers_of setup new.table events (drop 1 marks))) (made_marks (answers_of setup new.table events (drop 1 marks)) (drop 1 marks)) ≡ filter is_made (answers_of setup new.table events (drop 1 marks))) (same h) rest.answers);
        table = rw h (subst (λ (a : Table). table_after setup a (made_events events (answers_of setup new.table events (drop 1 marks))) (made_marks (answers_of setup new.table events (drop 1 marks)) (drop 1 marks)) ≡ table_after setup new.table events (drop 1 marks)) (same h) rest.table);
      }
