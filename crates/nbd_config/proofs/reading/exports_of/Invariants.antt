use Rattle.std.proofs.Common.{◌≡◌, [], length, drop}
use Rattle.nbd_config.specs.Entries.{values_of}
use Rattle.nbd_config.specs.Configured.{exports_behind}
use Rattle.nbd_config.proofs.reading.exports_of.Given as goal

-- what is left, behind the exports so far, decides
abbrev pub invariant-loop-at : goal.invariant-loop-at
invariant-loop-at g l =
    (length l.list ≡ l.at)
    × (exports_behind l.list (values_of (drop l.at l.values)) ≡ exports_behind [] (values_of l.values))
