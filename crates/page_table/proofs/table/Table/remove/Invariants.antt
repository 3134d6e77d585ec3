use Rattle.std.proofs.Common.{◌≡◌, ◌+◌, ◌-◌, ◌/◌, ◌≤◌, ◌&&◌, ℕ, None, not, true, false}
use Rattle.number_sets.specs.Bits.{is_between}
use Rattle.page_table.specs.Holes.{is_hole, is_noted}
use Rattle.page_table.specs.Table.{in_chunks}
use Rattle.number_sets.proofs.RangeLemmas.{ArePut}
use Rattle.page_table.proofs.table.Table.remove.Given as goal

-- the chunks are numbered from the last down, so that those that were looked at are the first ones
abbrev pub invariant-loop-chunk : goal.invariant-loop-chunk
invariant-loop-chunk g l = record {
  within : l.upto ≤ l.initial.upto;
  put : ArePut None (λ k. l.initial.upto - k / 256) l.first l.end (in_chunks l.fn.self.chunks) (in_chunks l.self.chunks) (l.initial.upto - l.upto + 1);
  holes : (p k : ℕ) → is_hole l.self.holes p k ≡ (is_hole l.fn.self.holes p k && not (is_between l.first l.end p));
  noted : (p : ℕ) → is_between l.first l.end p ≡ true → is_noted l.self.holes p ≡ false;
}

abbrev pub decreases-loop-chunk : goal.decreases-loop-chunk
decreases-loop-chunk g l = l.upto
