use Rattle.std.proofs.Common.{◌+◌, ◌<◌, ◌^◌, length}
use Rattle.nbd_scripts.proofs.BodyLemmas.{Goes}
use Rattle.nbd_scripts.proofs.events.read_lines.Given as goal

-- the lines so far are read, and their number is one of 64 bits
abbrev pub invariant-loop-rest : goal.invariant-loop-rest
invariant-loop-rest g l = record {
  goes : Goes g.row.A.Denot l.fn.body.above l.fn.body.text.now l.lines.items l.above l.rest;
  counted : l.above + length l.rest < 2 ^ 64;
}

abbrev pub decreases-loop-rest : goal.decreases-loop-rest
decreases-loop-rest g l = length l.rest
