use Rattle.std.proofs.Common.{◌+◌, ◌≤◌, length}
use Rattle.nbd_scripts.specs.Heads.{plan_of}
use Rattle.nbd_scripts.proofs.HeadLemmas.{Reads}
use Rattle.nbd_scripts.proofs.head.read_head.Given as goal

-- the lines so far are read, and there are no more of them than bytes
abbrev pub invariant-loop-rest : goal.invariant-loop-rest
invariant-loop-rest g l = record {
  reads : Reads l.script (plan_of l.draft) l.above l.rest;
  counted : l.above + length l.rest ≤ length l.script;
}

abbrev pub decreases-loop-rest : goal.decreases-loop-rest
decreases-loop-rest g l = length l.rest
