use Rattle.std.proofs.Common.{◌≡◌, ◌-◌, ◌++◌, ◌<◌, [], List, ℕ, None, length}
use Rattle.std.specs.Prelude.{vec_len}
use Rattle.std.specs.Io.KnownBytes.{Consumes}
use Rattle.nbd_stream.specs.Streams.{AreBytes}
use Rattle.nbd_stream.specs.Frames.{IsBehindReady}
use Rattle.nbd_stream.proofs.pieces.more.Given as goal

abbrev pub invariant-loop-fault : goal.invariant-loop-fault
invariant-loop-fault g l = record {
  room : 0 < vec_len l.buffer;
  none : l.ready.items ≡ [];
  well : IsBehindReady None l.intake;
  read : (bytes : List ℕ) × Consumes (g.R.Read.remaining l.fn.reader.inner) (g.R.Read.remaining l.reader.inner) bytes × AreBytes bytes × (l.fn.intake.held ++ bytes ≡ l.intake.held);
  kept : l.reader.failures ≡ l.fn.reader.failures;
}

abbrev pub decreases-loop-fault : goal.decreases-loop-fault
decreases-loop-fault g l = 33554461 - length l.intake.held
