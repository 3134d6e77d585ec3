use Rattle.std.proofs.Common.{◌≡◌, take, drop, ◌++◌}
use Rattle.eligibility.specs.Choice.{all_shifted}
use Rattle.eligibility.proofs.slots.shift_all.Given as goal

abbrev pub invariant-loop-slot : goal.invariant-loop-slot
invariant-loop-slot l = l.slots ≡ all_shifted l.delta (take l.slot-index l.fn.slots) ++ drop l.slot-index l.fn.slots
