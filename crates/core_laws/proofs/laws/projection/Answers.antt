use Rattle.core_laws.proofs.Runs.{told_alone, last_alone}
use Rattle.core_laws.proofs.laws.projection.Goals as goal

pub returns-clause-told : goal.returns-clause-told
returns-clause-told g c = told_alone

pub returns-clause-last : goal.returns-clause-last
returns-clause-last g c = last_alone
