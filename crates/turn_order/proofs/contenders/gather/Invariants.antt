-- what is gathered so far, and the flows that are left, give what all give
use Rattle.std.proofs.Common.{◌≡◌, drop}
use Rattle.turn_order.specs.Contenders.{gathered, among}
use Rattle.turn_order.proofs.contenders.gather.Given as goal

abbrev pub invariant-loop-flow : goal.invariant-loop-flow
invariant-loop-flow l = gathered l.now (drop l.flow-index l.flows) l.all ≡ among l.now l.flows l.own
