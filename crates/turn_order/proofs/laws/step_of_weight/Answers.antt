use Rattle.turn_order.proofs.Steps.{step_of_weight}
use Rattle.turn_order.proofs.laws.step_of_weight.Goals as goal

pub returns : goal.returns
returns c = step_of_weight
