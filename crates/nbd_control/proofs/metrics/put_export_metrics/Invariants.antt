use Rattle.std.proofs.Common.{◌≡◌, ◌++◌, drop}
use Rattle.std.specs.List.{flat_map}
use Rattle.nbd_control.specs.Metrics.{export_metric}
use Rattle.nbd_control.proofs.metrics.put_export_metrics.Given as goal

-- what is put so far and what is left are the whole
abbrev pub invariant-loop-figure : goal.invariant-loop-figure
invariant-loop-figure g l = l.text.items ++ flat_map (export_metric l.exports) (drop l.figure-index l.figures) ≡ l.fn.text.items ++ flat_map (export_metric l.exports) l.figures
