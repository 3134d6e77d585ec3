use Rattle.std.proofs.Common.{◌≡◌, refl}
use Rattle.tag_clock.specs.declared.Phase.TheVariants.{Weight}
use Rattle.server_table.specs.Table.{opening_table}
use Rattle.server_table.specs.declared.event.Event.TheVariants.{Dispatch}
use Rattle.server_table.specs.declared.event.Answer.TheVariants.{Picked}
use Rattle.core_laws.specs.Statements.{WaitsInItsLimit, table_before}
use Rattle.core_laws.proofs.Limits.{weight_waits}
use Rattle.core_laws.proofs.Places.{at_place}
use Rattle.core_laws.proofs.laws.weight_waits_for_its_limit.Goals as goal

pub returns-clause-step : goal.returns-clause-step
returns-clause-step g c = λ setup table t memory e n. weight_waits setup table e n t memory

pub returns-clause-run : goal.returns-clause-run
returns-clause-run g c = λ run k t e n stands.
    at_place run.setup (λ said. said ≡ Picked e n Weight → WaitsInItsLimit (table_before k run.setup run.events run.marks) t e n) (Dispatch t) run.events (opening_table run.setup) run.marks k stands.0
    (λ memory. weight_waits run.setup (table_before k run.setup run.events run.marks) e n t memory) (Picked e n Weight) stands.1 refl
