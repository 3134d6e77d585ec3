-- A run goes on by one event: what a loop over the events wants.
use Rattle.std.proofs.Common.{◌≡◌, Bool, List, [], ◌∷◌, ◌++◌, length, refl, ap, arith}
use Rattle.server_table.specs.declared.event.Event.{Event}
use Rattle.server_table.specs.declared.event.Answer.{Answer}
use Rattle.server_table.specs.Table.{Table, Setup}
use Rattle.server_table.specs.Steps.{step, table_after, answers_of}

module _ {A : Type 0} where
  pub table_after-push : (setup : Setup) (table : Table) (events : List (Event A)) (marks : List Bool) (event : Event A) (mark : Bool) → length marks ≡ length events →
      table_after setup table (events ++ event ∷ []) (marks ++ mark ∷ []) ≡ (step setup (table_after setup table events marks) event mark).table
  table_after-push setup table [] [] event mark same = refl
  table_after-push setup table [] (m ∷ marks) event mark same = absurd (omega arith)
  table_after-push setup table (e ∷ events) [] event mark same = absurd (omega arith)
  table_after-push setup table (e ∷ events) (m ∷ marks) event mark same = table_after-push setup (step setup table e m).table events marks event mark (omega arith)

  pub answers_of-push : (setup : Setup) (table : Table) (events : List (Event A)) (marks : List Bool) (event : Event A) (mark : Bool) → length marks ≡ length events →
      answers_of setup table (events ++ event ∷ []) (marks ++ mark ∷ []) ≡ answers_of setup table events marks ++ (step setup (table_after setup table events marks) event mark).answer ∷ []
  answers_of-push setup table [] [] event mark same = refl
  answers_of-push setup table [] (m ∷ marks) event mark same = absurd (omega arith)
  answers_of-push setup table (e ∷ events) [] event mark same = absurd (omega arith)
  answers_of-push setup table (e ∷ events) (m ∷ marks) event mark same = ap (λ (answers : List (Answer A)). (step setup table e m).answer ∷ answers) (answers_of-push setup (step setup table e m).table events marks event mark (omega arith))
