use Rattle.std.proofs.Common.{◌≤◌}
use Rattle.payload.proofs.spares.Spares.keep_all.Given as goal

abbrev pub invariant-loop-page : goal.invariant-loop-page
invariant-loop-page g l = l.fn.self ≤ l.self
