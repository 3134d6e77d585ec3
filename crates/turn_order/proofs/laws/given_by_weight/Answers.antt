use Rattle.turn_order.proofs.Given.{given_by_weight}
use Rattle.turn_order.proofs.laws.given_by_weight.Goals as goal

pub returns : goal.returns
returns c = given_by_weight
