use Rattle.std.proofs.Common.{◌≡◌, ◌-◌, ◌≤◌, length, drop}
use Rattle.nbd_options.proofs.TypeLemmas.{stands_in}
use Rattle.nbd_options.proofs.shape.is_asked.Given as goal

abbrev pub invariant-loop-at : goal.invariant-loop-at
invariant-loop-at l = record {
  so_far : stands_in l.kind l.types ≡ stands_in l.kind (drop l.at l.types);
  within : l.at ≤ length l.types;
}

abbrev pub decreases-loop-at : goal.decreases-loop-at
decreases-loop-at l = length l.types - l.at
