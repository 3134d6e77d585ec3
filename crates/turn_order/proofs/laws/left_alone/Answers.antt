use Rattle.turn_order.proofs.Alone.{is_left_alone}
use Rattle.turn_order.proofs.laws.left_alone.Goals as goal

pub returns : goal.returns
returns c = is_left_alone
