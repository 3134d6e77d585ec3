use Rattle.eligibility.specs.Indexed.{IsSplit, held}
use Rattle.eligibility.proofs.heaped.release.Given as goal

abbrev pub invariant-loop-export : goal.invariant-loop-export
invariant-loop-export g l = IsSplit l.now l.slots l.throttled l.ready

abbrev pub decreases-loop-export : goal.decreases-loop-export
decreases-loop-export g l = held l.throttled
