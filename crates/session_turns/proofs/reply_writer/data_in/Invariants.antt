use Rattle.std.proofs.Common.{◌≡◌, ◌≤◌, ◌-◌, ◌^◌, min, length, take}
use Rattle.session_turns.specs.Outgoing.{data_of}
use Rattle.session_turns.proofs.reply_writer.data_in.Given as goal

abbrev pub invariant-loop-at : goal.invariant-loop-at
invariant-loop-at g l = record {
  in_range : l.at ≤ length l.replies;
  counted : l.data ≡ min (length (data_of (take l.at l.replies))) (2 ^ 64 - 1);
}

abbrev pub decreases-loop-at : goal.decreases-loop-at
decreases-loop-at g l = length l.replies - l.at
