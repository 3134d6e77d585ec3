use Rattle.std.proofs.Common.{◌≡◌, take}
use Rattle.eligibility.specs.NextDue.{least_tag}
use Rattle.eligibility.proofs.soonest.least_tag.Given as goal

abbrev pub invariant-loop-slot : goal.invariant-loop-slot
invariant-loop-slot l = l.best ≡ least_tag (take l.slot-index l.slots)
