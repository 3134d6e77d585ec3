use Rattle.std.proofs.Common.{◌≡◌}
use Rattle.server_core.specs.Served.{setup_for}
use Rattle.nbd_scripts.proofs.ReplayLemmas.{Written}
use Rattle.nbd_scripts.proofs.replaying.replay.Given as goal

-- what is told of the lines so far is written, and no write failed
abbrev pub invariant-loop-line : goal.invariant-loop-line
invariant-loop-line g l = record {
  so_far : Written g.row.A.Denot (setup_for l.config) l.yielded l.server (g.W.Write.contents l.fn.output.inner) (g.W.Write.contents l.output.inner);
  kept : l.output.failures ≡ l.fn.output.failures;
}
