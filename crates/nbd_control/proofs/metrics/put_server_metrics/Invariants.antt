use Rattle.std.proofs.Common.{◌≡◌, ◌++◌, drop}
use Rattle.std.specs.List.{flat_map}
use Rattle.nbd_control.specs.Metrics.{server_metric}
use Rattle.nbd_control.proofs.metrics.put_server_metrics.Given as goal

-- what is put so far and what is left are the whole
abbrev pub invariant-loop-figure : goal.invariant-loop-figure
invariant-loop-figure g l = l.text.items ++ flat_map (server_metric l.server) (drop l.figure-index l.figures) ≡ l.fn.text.items ++ flat_map (server_metric l.server) l.figures
