use Rattle.std.proofs.Common.{◌≡◌, length}
use Rattle.number_sets.specs.Bits.{is_set}
use Rattle.page_table.proofs.ShownLemmas.{AreShown}
use Rattle.page_table.proofs.table.show.Given as goal

-- the bytes before the next are shown
abbrev pub invariant-loop-number : goal.invariant-loop-number
invariant-loop-number l = record {
  long : length l.bytes ≡ length l.fn.bytes;
  so : AreShown (is_set l.holes) l.fn.bytes l.bytes l.number;
}
