use Rattle.std.proofs.Common.{◌-◌, ◌/◌, ◌≤◌, false}
use Rattle.number_sets.specs.Marks.{is_marked}
use Rattle.number_sets.proofs.RangeLemmas.{ArePut}
use Rattle.number_sets.proofs.held_zeros.HeldZeros.remove.Given as goal

abbrev pub invariant-loop-bitmap : goal.invariant-loop-bitmap
invariant-loop-bitmap g l = record {
  begun : l.first / 16384 ≤ l.next;
  within : l.next ≤ l.last;
  put : ArePut false (λ k. k / 16384) l.first l.end (is_marked l.fn.self) (is_marked l.self) l.next;
}

abbrev pub decreases-loop-bitmap : goal.decreases-loop-bitmap
decreases-loop-bitmap g l = l.last - l.next
