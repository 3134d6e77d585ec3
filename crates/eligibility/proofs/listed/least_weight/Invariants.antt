use Rattle.std.proofs.Common.{◌≡◌, take}
use Rattle.nbd_base.specs.Least.{least}
use Rattle.eligibility.specs.Choice.{candidates, due_p}
use Rattle.eligibility.proofs.listed.least_weight.Given as goal

abbrev pub invariant-loop-i : goal.invariant-loop-i
invariant-loop-i l = l.best ≡ least (candidates (due_p l.now) 0 (take l.i l.slots))
