use Rattle.std.proofs.Common.{◌≡◌, ◌*◌, ◌≤◌, drop}
use Rattle.std.specs.List.{concat}
use Rattle.payload.specs.Rows.{AreWhole}
use Rattle.export_store.specs.Pages.{in_a_row, page_of}
use Rattle.export_store.proofs.paged.Paged.pages_between.Given as goal

-- the pages before the next are there
abbrev pub invariant-loop-number : goal.invariant-loop-number
invariant-loop-number g l = record {
  begun : l.first ≤ l.number;
  whole : AreWhole l.pages.items;
  bytes : concat l.pages.items ≡ drop (4096 * l.first) (in_a_row (page_of l.self) l.number);
}
