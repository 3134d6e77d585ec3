use Rattle.std.proofs.Common.{◌≡◌, ◌++◌, drop}
use Rattle.std.specs.List.{flat_map}
use Rattle.nbd_control.specs.Metrics.{export_sample}
use Rattle.nbd_control.proofs.metrics.put_export_samples.Given as goal

-- what is put so far and what is left are the whole
abbrev pub invariant-loop-export : goal.invariant-loop-export
invariant-loop-export g l = l.text.items ++ flat_map (export_sample l.figure) (drop l.export-index l.exports) ≡ l.fn.text.items ++ flat_map (export_sample l.figure) l.exports
