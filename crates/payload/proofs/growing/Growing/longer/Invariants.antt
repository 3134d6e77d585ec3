use Rattle.std.proofs.Common.{◌≡◌, ◌<◌, ◌++◌, length}
use Rattle.std.specs.List.{concat}
use Rattle.payload.specs.Rows.{AreWhole, HasRoom}
use Rattle.payload.proofs.growing.Growing.longer.Given as goal

abbrev pub invariant-loop-left : goal.invariant-loop-left
invariant-loop-left g l = record {
  whole : AreWhole l.pages.items;
  begun : length l.last.items < 4096;
  room : HasRoom l.last;
  bytes : (concat l.pages.items ++ l.last.items) ++ l.left
      ≡ (concat l.initial.pages.items ++ l.initial.last.items) ++ l.bytes;
}

abbrev pub decreases-loop-left : goal.decreases-loop-left
decreases-loop-left g l = length l.left
