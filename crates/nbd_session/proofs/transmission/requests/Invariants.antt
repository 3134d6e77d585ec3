use Rattle.std.proofs.Common.{◌≡◌, ◌+◌, ◌-◌, ◌^◌, ◌<◌, None}
use Rattle.nbd_session.specs.Requests.{opened}
use Rattle.nbd_session.specs.Plainly.{IsIdle}
use Rattle.nbd_session.proofs.KeptLemmas.{Keeping}
use Rattle.nbd_session.proofs.transmission.requests.Given as goal

abbrev pub invariant-loop-request : goal.invariant-loop-request
invariant-loop-request g l = record {
  keeping : Keeping l.fn.lone.terms (opened l.fn.lone.terms) l.lone.state l.frames.kept
      (g.R.Read.remaining l.fn.reader.inner) (g.R.Read.remaining l.reader.inner)
      (g.W.Write.contents l.fn.writer.inner) (g.W.Write.contents l.writer.inner);
  not_ended : l.frames.ended ≡ None;
  idle : IsIdle l.lone;
  same_terms : l.lone.terms ≡ l.fn.lone.terms;
  few : l.lone.state.count < 2 ^ 56 + 4;
  read_kept : l.reader.failures ≡ l.fn.reader.failures;
  write_kept : l.writer.failures ≡ l.fn.writer.failures;
}

abbrev pub decreases-loop-request : goal.decreases-loop-request
decreases-loop-request g l = 2 ^ 56 + 4 - l.lone.state.count
