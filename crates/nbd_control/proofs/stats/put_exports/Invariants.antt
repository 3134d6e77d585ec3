use Rattle.std.proofs.Common.{◌≡◌, ◌++◌, drop}
use Rattle.std.specs.List.{flat_map}
use Rattle.nbd_control.specs.Stats.{export_line}
use Rattle.nbd_control.proofs.stats.put_exports.Given as goal

-- what is put so far and what is left are the whole
abbrev pub invariant-loop-export : goal.invariant-loop-export
invariant-loop-export g l = l.text.items ++ flat_map export_line (drop l.export-index l.exports) ≡ l.fn.text.items ++ flat_map export_line l.exports
