use Rattle.std.proofs.Common.{◌≡◌, ◌<◌, ◌≤◌, ℕ, None}
use Rattle.page_table.specs.Table.{chunk_of}
use Rattle.page_table.proofs.regions.Regions.last.Given as goal

abbrev pub invariant-loop-upto : goal.invariant-loop-upto
invariant-loop-upto g l = record {
  within : l.upto ≤ l.end;
  none : (q : ℕ) → l.upto ≤ q → q < l.end → chunk_of l.self q ≡ None;
}

abbrev pub decreases-loop-upto : goal.decreases-loop-upto
decreases-loop-upto g l = l.upto
