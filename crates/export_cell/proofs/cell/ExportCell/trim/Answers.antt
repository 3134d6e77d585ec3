use Rattle.std.proofs.Common.{sym, ◌∙◌}
use Rattle.export_cell.proofs.Fronts.{trimming-more, trimming-over}
use Rattle.export_cell.proofs.cell.ExportCell.trim.Goals as goal

pub returns-clause-ok : goal.returns-clause-ok
returns-clause-ok g c = trimming-over c.args.bytes c.args.self.now c.loop-self.self c.loop-self.invariant (sym c.is_fit.ensures ∙ c.loop-self-test.false)

pub loop-self-preserved : goal.loop-self-preserved
loop-self-preserved g c = trimming-more c.args.bytes c.args.self.now c.loop-self.self c.advance.new.self c.loop-self.invariant c.in-Ok.ensures.ok
