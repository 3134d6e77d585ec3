use Rattle.std.proofs.Common.{◌≡◌, ◌+◌, ◌-◌, ◌≤◌, ◌++◌, length, take}
use Rattle.payload.specs.Bytes.{range_of}
use Rattle.payload.proofs.payload.Payload.copied_over.Given as goal

abbrev pub invariant-loop-done : goal.invariant-loop-done
invariant-loop-done g l = record {
  upto : l.done ≤ l.count;
  room : 4096 ≤ length l.block.items + l.block.spare;
  bytes : l.block.items ≡ take l.start l.page ++ range_of l.self l.from l.done;
}

abbrev pub decreases-loop-done : goal.decreases-loop-done
decreases-loop-done g l = l.count - l.done
