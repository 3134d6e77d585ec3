use Rattle.std.proofs.Common.{◌≡◌, ◌-◌, ◌≤◌, ℕ, length, take, drop}
use Rattle.page_table.specs.Table.{in_chunks, put_from}
use Rattle.page_table.proofs.chunks.Chunks.exchange_all.Given as goal

-- the first pages are put, and the others are as they were
abbrev pub invariant-loop-done : goal.invariant-loop-done
invariant-loop-done g l = record {
  upto : l.done ≤ length l.pages;
  long : length l.pages ≡ length l.fn.pages;
  rest : drop l.done l.pages ≡ drop l.done l.fn.pages;
  here : (k : ℕ) → in_chunks l.self k ≡ put_from l.first (take l.done l.fn.pages) (in_chunks l.fn.self) k;
}

abbrev pub decreases-loop-done : goal.decreases-loop-done
decreases-loop-done g l = length l.initial.pages - l.done
