use Rattle.std.proofs.Common.{◌≡◌, ◌-◌, ◌≤◌, length, take}
use Rattle.payload.specs.Bytes.{overwritten}
use Rattle.export_store.proofs.flat.put_all.Given as goal

-- the bytes before the next are written
abbrev pub invariant-loop-at : goal.invariant-loop-at
invariant-loop-at g l = record {
  upto : l.at ≤ length l.piece;
  long : length l.kept ≡ length l.fn.kept;
  written : l.kept ≡ overwritten l.fn.kept l.offset l.at (take l.at l.piece);
}

abbrev pub decreases-loop-at : goal.decreases-loop-at
decreases-loop-at g l = length l.piece - l.at
