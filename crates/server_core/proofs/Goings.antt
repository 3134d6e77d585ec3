-- A run goes on by one event.
use Rattle.std.proofs.Common.{◌≡◌, ◌+◌, List, [], ◌∷◌, ◌++◌, length, sym, ◌∙◌, ap}
use Rattle.std.proofs.lemmas.List.{map-append, length-append}
use Rattle.server_table.specs.declared.event.Event.{Event}
use Rattle.server_table.specs.declared.event.Answer.{Answer}
use Rattle.server_table.specs.Table.{Table, Setup}
use Rattle.server_table.specs.Steps.{Outcome, step, table_after, answers_of}
use Rattle.server_table.specs.Shares.{mark_of, marks_of}
use Rattle.server_table.proofs.Push.{answers_of-push, table_after-push}
use Rattle.server_core.specs.Served.{Served, Stepped}

-- so far
pub record Going (A : Type 0) (first : Served) (events : List (Event A)) (answers : List (Answer A)) (last : Served) : Type 0 where
  pub told : answers ≡ answers_of first.setup first.table events (marks_of answers)
  pub table : last.table ≡ table_after first.setup first.table events (marks_of answers)
  pub setup : last.setup ≡ first.setup
  pub long : length (marks_of answers) ≡ length events

module _ (A : Type 0) where
  pub one_more : (first now new : Served) (events : List (Event A)) (answers answers' : List (Answer A)) (event : Event A) (said : Answer A) → Going A first events answers now → Stepped now event new said → answers' ≡ answers ++ said ∷ [] → Going A first (events ++ event ∷ []) answers' new
  one_more first now new events answers answers' event said going one is =
      let marks : marks_of answers' ≡ marks_of answers ++ mark_of said ∷ [] = ap marks_of is ∙ map-append mark_of answers (said ∷ []) in
      let before = table_after first.setup first.table events (marks_of answers) in
      let happened : step first.setup before event (mark_of said) ≡ record { table = new.table; answer = said } =
      ap (λ (tb : Table). step first.setup tb event (mark_of said)) (sym going.table) ∙ ap (λ (s : Setup). step s now.table event (mark_of said)) (sym going.setup) ∙ one.stepped in
      record {
        told = is
            ∙ ap (λ l. l ++ said ∷ []) going.told
            ∙ ap (λ a. answers_of first.setup first.table events (marks_of answers) ++ a ∷ []) (sym (ap (λ (h : Outcome A). h.answer) happened))
            ∙ sym (answers_of-push first.setup first.table events (marks_of answers) event (mark_of said) going.long)
            ∙ ap (answers_of first.setup first.table (events ++ event ∷ [])) (sym marks);
        table = sym (ap (λ (h : Outcome A). h.table) happened)
            ∙ sym (table_after-push first.setup first.table events (marks_of answers) event (mark_of said) going.long)
            ∙ ap (table_after first.setup first.table (events ++ event ∷ [])) (sym marks);
        setup = one.setup ∙ going.setup;
        long = ap length marks ∙ length-append (marks_of answers) (mark_of said ∷ []) ∙ ap (λ n. n + 1) going.long ∙ sym (length-append events (event ∷ []));
      }
