use Rattle.std.proofs.Common.{◌≡◌, map, take}
use Rattle.turn_order.specs.Flows.{flow_of}
use Rattle.turn_order.proofs.order.TurnOrder.new.Given as goal

abbrev pub invariant-loop-rates : goal.invariant-loop-rates
invariant-loop-rates g l = l.flows.items ≡ map flow_of (take l.rates-index l.rates)
