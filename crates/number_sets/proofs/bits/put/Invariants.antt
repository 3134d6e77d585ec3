use Rattle.std.proofs.Common.{◌≡◌, ℕ, ◌-◌, ◌≤◌, max, if◌then◌else◌}
use Rattle.number_sets.specs.Bits.{is_set, is_between}
use Rattle.number_sets.proofs.bits.put.Given as goal

abbrev pub invariant-loop-next : goal.invariant-loop-next
invariant-loop-next l = record {
  begun : l.first ≤ l.next;
  upto : l.next ≤ max l.first l.end;
  put : (k : ℕ) → is_set l.words k ≡ (if is_between l.first l.next k then l.member else is_set l.fn.words k);
}

abbrev pub decreases-loop-next : goal.decreases-loop-next
decreases-loop-next l = l.end - l.next
