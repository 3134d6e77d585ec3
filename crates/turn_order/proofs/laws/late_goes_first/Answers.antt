use Rattle.turn_order.proofs.Late.{late_served, late_waited_for}
use Rattle.turn_order.proofs.laws.late_goes_first.Goals as goal

pub returns-clause-served : goal.returns-clause-served
returns-clause-served c = late_served

pub returns-clause-waited_for : goal.returns-clause-waited_for
returns-clause-waited_for c = late_waited_for
