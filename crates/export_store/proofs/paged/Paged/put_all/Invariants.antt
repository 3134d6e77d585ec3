use Rattle.std.proofs.Common.{◌≡◌, ℕ, ◌+◌, ◌-◌, ◌/◌, ◌≤◌, true, nat_le, if◌then◌else◌, length}
use Rattle.std.specs.Int.{div_ceil}
use Rattle.export_store.specs.Pages.{image_of, is_stored, is_held, page_of, page_after, pages_after}
use Rattle.export_store.proofs.paged.Paged.put_all.Given as goal

-- the pages from the next on are written
abbrev pub invariant-loop-page : goal.invariant-loop-page
invariant-loop-page g l = record {
  size : l.self.size ≡ l.fn.self.size;
  long : length (image_of l.self) ≡ length (image_of l.fn.self);
  begun : l.offset / 4096 ≤ l.number;
  upto : l.number ≤ div_ceil (l.offset + length l.piece) 4096;
  left : l.pages.items ≡ pages_after (page_of l.fn.self) l.offset l.piece (l.offset / 4096) (l.number - l.offset / 4096);
  written : (k : ℕ) → page_of l.self k ≡ (if nat_le l.number k then page_after l.offset l.piece k (page_of l.fn.self k) else page_of l.fn.self k);
  held : (k : ℕ) → is_held l.self k ≡ is_held l.fn.self k;
  stored : (k : ℕ) → is_stored l.fn.self k ≡ true → is_stored l.self k ≡ true;
}

abbrev pub decreases-loop-page : goal.decreases-loop-page
decreases-loop-page g l = l.number - l.offset / 4096
