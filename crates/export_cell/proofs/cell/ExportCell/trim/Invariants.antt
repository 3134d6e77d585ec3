use Rattle.std.proofs.Common.{length}
use Rattle.export_cell.specs.Journal.{IsTrimming}
use Rattle.export_cell.proofs.cell.ExportCell.trim.Given as goal

abbrev pub invariant-loop-self : goal.invariant-loop-self
invariant-loop-self g l = IsTrimming l.bytes l.fn.self l.self

abbrev pub decreases-loop-self : goal.decreases-loop-self
decreases-loop-self g l = length l.self.journal.log
