use Rattle.std.proofs.Common.{◌≡◌, ◌*◌, ◌≤◌, take}
use Rattle.nbdq_cli.specs.Warned.{reserved_in}
use Rattle.nbdq_cli.proofs.warnings.reserved_in.Given as goal

-- the exports up to here are counted
abbrev pub invariant-loop-export : goal.invariant-loop-export
invariant-loop-export g l = (l.reserved ≡ reserved_in (take l.export-index l.export-items)) × (l.reserved ≤ l.export-index * 4294967296)
