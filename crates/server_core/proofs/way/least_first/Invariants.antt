use Rattle.std.proofs.Common.{◌≡◌, take}
use Rattle.server_table.specs.Ways.{least_first_p}
use Rattle.server_core.specs.Served.{parts}
use Rattle.server_core.proofs.way.least_first.Given as goal

abbrev pub invariant-loop-i : goal.invariant-loop-i
invariant-loop-i g l = l.best ≡ least_first_p (parts (take l.i l.members))
