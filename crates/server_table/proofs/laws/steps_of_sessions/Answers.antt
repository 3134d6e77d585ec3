use Rattle.server_table.proofs.Sides.{step_attach, step_take, step_leave, step_gone}
use Rattle.server_table.proofs.laws.steps_of_sessions.Goals as goal

pub returns-clause-attach : goal.returns-clause-attach
returns-clause-attach g c = step_attach

pub returns-clause-take : goal.returns-clause-take
returns-clause-take g c = step_take

pub returns-clause-leave : goal.returns-clause-leave
returns-clause-leave g c = step_leave

pub returns-clause-gone : goal.returns-clause-gone
returns-clause-gone g c = step_gone
