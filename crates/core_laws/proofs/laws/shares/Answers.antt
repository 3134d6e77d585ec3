use Rattle.std.proofs.Common.{◌≡◌, ◌≤ℤ◌, refl}
use Rattle.tag_clock.specs.declared.Phase.TheVariants.{Weight}
use Rattle.server_table.specs.Table.{opening_table}
use Rattle.server_table.specs.declared.event.Event.TheVariants.{Dispatch}
use Rattle.server_table.specs.declared.event.Answer.TheVariants.{Picked}
use Rattle.core_laws.specs.Statements.{table_before}
use Rattle.core_laws.specs.Shares.{p_interval_at}
use Rattle.core_laws.proofs.Places.{at_place}
use Rattle.core_laws.proofs.Chains.{reached_before, reached_through}
use Rattle.core_laws.proofs.Beside.{weight_least, alongside, bounded}
use Rattle.core_laws.proofs.Timely.{rises, bounded_by_ratio}
use Rattle.core_laws.proofs.Between.{goes_between, along_between}
use Rattle.core_laws.proofs.laws.shares.Goals as goal

pub returns-clause-least : goal.returns-clause-least
returns-clause-least g c = λ run k t e f n terms chosen other stands there first beside due.
    at_place run.setup (λ said. said ≡ Picked f n Weight → (chosen.number ≡ n) × (chosen.p ≤ℤ other.p)) (Dispatch t) run.events (opening_table run.setup) run.marks k stands.0
    (λ memory. weight_least run.setup (table_before k run.setup run.events run.marks) e f n t memory chosen other (reached_before run.setup terms f k run.events run.marks there).tidy first beside due) (Picked f n Weight) stands.1 refl

pub returns-clause-bound : goal.returns-clause-bound
returns-clause-bound g c = λ run e f i j one other start end there too some goes waits.
    bounded run.setup e f i j (p_interval_at e i run.setup run.events run.marks) (p_interval_at f i run.setup run.events run.marks) run.events run.marks start end
    (reached_through run.setup one e i j run.events run.marks there waits.e_waits) (reached_through run.setup other f i j run.events run.marks too waits.f_waits)
    some goes (alongside e f i j run.setup run.events run.marks start waits)

pub returns-clause-tags : goal.returns-clause-tags
returns-clause-tags g c = λ run f i j terms start end there goes waits in_time. rises run.setup terms f there run.events run.marks start end in_time i j goes waits

pub returns-clause-ratio : goal.returns-clause-ratio
returns-clause-ratio g c = λ run e f i j one other start end there too some goes waits.
    bounded_by_ratio run.setup e f i j one other run.events run.marks start end there too some goes (alongside e f i j run.setup run.events run.marks start waits)

pub returns-clause-between : goal.returns-clause-between
returns-clause-between g c = λ run e f i j one other start end there too some twice waits.
    let both = along_between run.setup other e f i j run.events run.marks start end too twice waits in
    bounded run.setup e f i j (p_interval_at e i run.setup run.events run.marks) (p_interval_at f i run.setup run.events run.marks) run.events run.marks start end
    (reached_through run.setup one e i j run.events run.marks there both.e_waits) (reached_through run.setup other f i j run.events run.marks too both.f_waits)
    some (goes_between run.setup other f i j run.events run.marks start end too twice) both

pub returns-clause-ratio_between : goal.returns-clause-ratio_between
returns-clause-ratio_between g c = λ run e f i j one other start end there too some twice waits.
    bounded_by_ratio run.setup e f i j one other run.events run.marks start end there too some (goes_between run.setup other f i j run.events run.marks start end too twice)
    (along_between run.setup other e f i j run.events run.marks start end too twice waits)
