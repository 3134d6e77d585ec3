use Rattle.std.proofs.Common.{◌≡◌, ◌+◌, ◌*◌, ◌≤◌, is_some}
use Rattle.page_table.specs.Table.{in_table}
use Rattle.number_sets.proofs.CountLemmas.{count_of}
use Rattle.page_table.proofs.table.Table.stored.Given as goal

abbrev pub invariant-loop-chunk : goal.invariant-loop-chunk
invariant-loop-chunk g l = record {
  within : l.upto ≤ l.chunks;
  count : l.count + count_of (λ k. is_some (in_table l.self k)) 0 (256 * l.upto) ≡ count_of (λ k. is_some (in_table l.self k)) 0 (256 * l.chunks);
}

abbrev pub decreases-loop-chunk : goal.decreases-loop-chunk
decreases-loop-chunk g l = l.upto
