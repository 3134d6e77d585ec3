use Rattle.std.proofs.Common.{Some}
use Rattle.nbdq_cli.specs.Checked.{export_line, inflight_line}
use Rattle.nbdq_cli.proofs.ReportLemmas.{Written}
use Rattle.nbdq_cli.proofs.checking.write_config.Given as goal

-- the lines of the exports up to here are written
abbrev pub invariant-loop-at : goal.invariant-loop-at
invariant-loop-at g l = Written export_line (inflight_line l.config.inflight) l.config.exports l.at (Some l.fn.text.items) (Some l.text.items)
