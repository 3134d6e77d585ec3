-- none so far
use Rattle.std.proofs.Common.{◌≡◌, drop}
use Rattle.turn_order.specs.Orders.{first_waking}
use Rattle.turn_order.proofs.order.TurnOrder.next_to_wake.Given as goal

abbrev pub invariant-loop-export : goal.invariant-loop-export
invariant-loop-export g l = first_waking l.now l.self.flows l.from l.export (drop l.export l.self.flows) ≡ first_waking l.now l.self.flows l.from 0 l.self.flows
