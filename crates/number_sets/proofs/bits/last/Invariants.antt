use Rattle.std.proofs.Common.{◌≡◌, ◌<◌, ◌≤◌, ℕ, false}
use Rattle.number_sets.specs.Bits.{is_set}
use Rattle.number_sets.proofs.bits.last.Given as goal

abbrev pub invariant-loop-upto : goal.invariant-loop-upto
invariant-loop-upto l = record {
  within : l.upto ≤ l.end;
  none : (k : ℕ) → l.upto ≤ k → k < l.end → is_set l.words k ≡ false;
}

abbrev pub decreases-loop-upto : goal.decreases-loop-upto
decreases-loop-upto l = l.upto
