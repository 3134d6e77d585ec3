use Rattle.std.proofs.Common.{◌≡◌, ◌+◌, ◌-◌, ℕ, length}
use Rattle.page_table.specs.Table.{chunk_of}
use Rattle.page_table.proofs.regions.lengthen_to.Given as goal

abbrev pub invariant-loop-alloc : goal.invariant-loop-alloc
invariant-loop-alloc g l = (q : ℕ) → chunk_of l.regions.items q ≡ chunk_of l.fn.regions.items q

abbrev pub decreases-loop-alloc : goal.decreases-loop-alloc
decreases-loop-alloc g l = (l.region + 1) - length l.regions.items
