use Rattle.std.proofs.Common.{◌≡◌, ◌≤◌, ◌-◌, length, take}
use Rattle.std.specs.Io.KnownBytes.{Appends}
use Rattle.session_turns.specs.Outgoing.{texts_of}
use Rattle.session_turns.proofs.reply_writer.put_all.Given as goal

abbrev pub invariant-loop-at : goal.invariant-loop-at
invariant-loop-at g l = record {
  in_range : l.at ≤ length l.replies;
  gave : Appends (g.W.Write.contents l.fn.writer.inner) (g.W.Write.contents l.writer.inner) (texts_of (take l.at l.replies));
  kept : l.writer.failures ≡ l.fn.writer.failures;
}

abbrev pub decreases-loop-at : goal.decreases-loop-at
decreases-loop-at g l = length l.replies - l.at
