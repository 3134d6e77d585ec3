use Rattle.std.proofs.Common.{◌≡◌, refl}
use Rattle.tag_clock.specs.declared.Phase.TheVariants.{Reservation}
use Rattle.server_table.specs.Table.{opening_table}
use Rattle.server_table.specs.declared.event.Event.TheVariants.{Dispatch}
use Rattle.server_table.specs.declared.event.Answer.TheVariants.{Picked}
use Rattle.core_laws.specs.Statements.{table_before}
use Rattle.core_laws.proofs.Places.{at_place}
use Rattle.core_laws.proofs.Reserved.{goes_first}
use Rattle.core_laws.proofs.laws.reservations_first.Goals as goal

pub returns-clause-step : goal.returns-clause-step
returns-clause-step g c = λ setup table t memory e n phase answer due. goes_first setup table e n t phase memory due answer

pub returns-clause-run : goal.returns-clause-run
returns-clause-run g c = λ run k t e n phase stands due.
    at_place run.setup (λ said. said ≡ Picked e n phase → phase ≡ Reservation) (Dispatch t) run.events (opening_table run.setup) run.marks k stands.0
    (λ memory. goes_first run.setup (table_before k run.setup run.events run.marks) e n t phase memory due) (Picked e n phase) stands.1 refl
