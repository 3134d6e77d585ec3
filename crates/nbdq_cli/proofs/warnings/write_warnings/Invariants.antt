use Rattle.std.proofs.Common.{Some}
use Rattle.nbdq_cli.specs.Warned.{depth_line, reserved_in, reserved_line}
use Rattle.nbdq_cli.proofs.ReportLemmas.{Written}
use Rattle.nbdq_cli.proofs.warnings.write_warnings.Given as goal

-- the lines of the exports up to here are written
abbrev pub invariant-loop-at : goal.invariant-loop-at
invariant-loop-at g l =
    Written depth_line (reserved_line (reserved_in l.config.exports)) l.config.exports l.at (Some l.fn.text.items) (Some l.text.items)
