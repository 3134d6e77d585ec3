use Rattle.std.proofs.Common.{◌≡◌, ◌-◌, ◌≤◌}
use Rattle.export_store.specs.Pages.{page_of, pages_after}
use Rattle.export_store.proofs.paged.Paged.pages_after.Given as goal

-- the pages before the next are ready
abbrev pub invariant-loop-number : goal.invariant-loop-number
invariant-loop-number g l = record {
  begun : l.first ≤ l.number;
  ready : l.pages.items ≡ pages_after (page_of l.self) l.offset l.piece l.first (l.number - l.first);
}
