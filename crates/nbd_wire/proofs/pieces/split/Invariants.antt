use Rattle.std.proofs.Common.{◌+◌, ◌-◌, ◌≤◌, length, drop}
use Rattle.nbd_wire.specs.Pieces.{Takes}
use Rattle.nbd_wire.proofs.pieces.split.Given as goal

abbrev pub invariant-loop-request : goal.invariant-loop-request
invariant-loop-request g l = record {
  within : l.at ≤ length l.bytes;
  taken : Takes l.bytes (drop l.at l.bytes) l.fn.out.items l.out.items;
}

abbrev pub decreases-loop-request : goal.decreases-loop-request
decreases-loop-request g l = length l.bytes + 1 - l.at
