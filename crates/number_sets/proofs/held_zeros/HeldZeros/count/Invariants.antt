use Rattle.std.proofs.Common.{◌≡◌, ◌*◌, ◌-◌, ◌≤◌}
use Rattle.number_sets.specs.Marks.{is_marked}
use Rattle.number_sets.proofs.CountLemmas.{count_of}
use Rattle.number_sets.proofs.held_zeros.HeldZeros.count.Given as goal

abbrev pub invariant-loop-bitmap : goal.invariant-loop-bitmap
invariant-loop-bitmap g l = record {
  within : l.from ≤ l.bitmaps;
  count : l.count ≡ count_of (is_marked l.self) 0 (16384 * l.from);
}

abbrev pub decreases-loop-bitmap : goal.decreases-loop-bitmap
decreases-loop-bitmap g l = l.bitmaps - l.from
