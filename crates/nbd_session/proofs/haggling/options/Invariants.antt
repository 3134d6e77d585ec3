use Rattle.std.proofs.Common.{◌≡◌, ◌-◌, ◌≤◌}
use Rattle.nbd_session.specs.Conversation.{HagglesOn}
use Rattle.nbd_session.specs.Outcomes.{Going}
use Rattle.nbd_session.proofs.AskingLemmas.{HasAsked}
use Rattle.nbd_session.proofs.haggling.options.Given as goal

abbrev pub invariant-loop-number : goal.invariant-loop-number
invariant-loop-number g l = record {
  going : Going (HagglesOn g.T.Attach.may l.table l.bare 0) (HagglesOn g.T.Attach.may l.table l.bare l.haggle.seen)
      (g.R.Read.remaining l.fn.reader.inner) (g.R.Read.remaining l.reader.inner)
      (g.W.Write.contents l.fn.writer.inner) (g.W.Write.contents l.writer.inner);
  few : l.haggle.seen ≤ 1000;
  asked : HasAsked g.T.Attach.may l.table l.bare (g.T.Attach.askings l.fn.attach) (g.T.Attach.askings l.attach) (g.R.Read.remaining l.fn.reader.inner)
      (g.R.Read.remaining l.reader.inner) l.haggle.seen;
  read_kept : l.reader.failures ≡ l.fn.reader.failures;
  write_kept : l.writer.failures ≡ l.fn.writer.failures;
}

abbrev pub decreases-loop-number : goal.decreases-loop-number
decreases-loop-number g l = 1001 - l.haggle.seen
