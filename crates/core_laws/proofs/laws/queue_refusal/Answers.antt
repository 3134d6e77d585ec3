use Rattle.std.proofs.Common.{◌≡◌, ◌≢◌, ◌↔◌, true, arith}
use Rattle.server_table.specs.Table.{opening_table}
use Rattle.server_table.specs.declared.event.Event.TheVariants.{Arrive}
use Rattle.server_table.specs.declared.event.Answer.TheVariants.{Answered, NoMemory}
use Rattle.core_laws.specs.Statements.{HasFullQueue, table_before}
use Rattle.core_laws.proofs.Places.{at_place, queue_at}
use Rattle.core_laws.proofs.laws.queue_refusal.Goals as goal

pub returns-clause-step : goal.returns-clause-step
returns-clause-step g c = λ setup table e s t q terms passes. queue_at setup table e s t q terms true passes (λ wanted. absurd (grind (arith, wanted)))

pub returns-clause-run : goal.returns-clause-run
returns-clause-run g c = λ run k e s t q terms said stands had passes.
    at_place run.setup (λ said. said ≢ NoMemory → (said ≡ Answered 5) ↔ HasFullQueue (table_before k run.setup run.events run.marks) e terms) (Arrive e s t q) run.events (opening_table run.setup) run.marks k stands.0
    (λ memory given. queue_at run.setup (table_before k run.setup run.events run.marks) e s t q terms memory passes (λ wanted. given)) said stands.1 had
