use Rattle.std.proofs.Common.{◌≡◌, ◌++◌, drop}
use Rattle.std.specs.List.{flat_map}
use Rattle.nbd_control.specs.Stats.{export_field}
use Rattle.nbd_control.proofs.stats.put_export_fields.Given as goal

-- what is put so far and what is left are the whole
abbrev pub invariant-loop-figure : goal.invariant-loop-figure
invariant-loop-figure g l = l.text.items ++ flat_map (export_field l.export) (drop l.figure-index l.figures) ≡ l.fn.text.items ++ flat_map (export_field l.export) l.figures
