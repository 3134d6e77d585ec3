use Rattle.core_laws.proofs.Runs.{leaves_others, leaves_unchosen}
use Rattle.core_laws.proofs.laws.locality.Goals as goal

pub returns-clause-others : goal.returns-clause-others
returns-clause-others g c = λ setup table event memory e f. leaves_others setup table e f event memory

pub returns-clause-chosen : goal.returns-clause-chosen
returns-clause-chosen g c = λ setup table t memory e f n phase. leaves_unchosen setup table e f n t phase memory
