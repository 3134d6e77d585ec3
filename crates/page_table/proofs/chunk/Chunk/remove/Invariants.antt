use Rattle.std.proofs.Common.{◌≡◌, ℕ, ◌≤◌, None, get_or, max, if◌then◌else◌}
use Rattle.number_sets.specs.Bits.{is_between}
use Rattle.page_table.proofs.chunk.Chunk.remove.Given as goal

-- the pages before the next are gone
abbrev pub invariant-loop-place : goal.invariant-loop-place
invariant-loop-place g l = record {
  begun : l.first ≤ l.place;
  upto : l.place ≤ max l.first l.end;
  gone : (k : ℕ) → get_or l.self k None ≡ (if is_between l.first l.place k then None else get_or l.fn.self k None);
}
