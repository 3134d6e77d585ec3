use Rattle.turn_order.proofs.Stuck.{none_stuck}
use Rattle.turn_order.proofs.laws.none_is_stuck.Goals as goal

pub returns : goal.returns
returns c = none_stuck
