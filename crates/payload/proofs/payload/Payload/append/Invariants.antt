use Rattle.std.proofs.Common.{◌≡◌, ◌+◌, ◌-◌, ◌≤◌, ◌++◌, length, vec_len, vec_capacity}
use Rattle.payload.specs.Bytes.{range_of}
use Rattle.payload.proofs.payload.Payload.append.Given as goal

abbrev pub invariant-loop-at : goal.invariant-loop-at
invariant-loop-at g l = record {
  place : l.at ≤ length l.self;
  room : vec_len l.out + (length l.self - l.at) ≤ vec_capacity l.out;
  bytes : l.out.items ++ range_of l.self l.at (length l.self - l.at) ≡ l.fn.out.items ++ l.self;
}

abbrev pub decreases-loop-at : goal.decreases-loop-at
decreases-loop-at g l = length l.self - l.at
