use Rattle.std.proofs.Common.{◌≡◌, length, take}
use Rattle.payload.proofs.swept.Swept.take_pages.Given as goal

-- what was there still is
abbrev pub invariant-loop-page : goal.invariant-loop-page
invariant-loop-page g l = record {
  pages : take (length l.fn.self.0) l.self.0 ≡ l.fn.self.0;
  chunks : l.self.1 ≡ l.fn.self.1;
}
