use Rattle.std.proofs.Common.{subst}
use Rattle.export_cell.specs.Journal.{Cell, IsJournal, IsWithinBytes}
use Rattle.export_cell.proofs.Logs.{few_bytes}
use Rattle.export_cell.proofs.cell.ExportCell.laws.Goals as goal

pub returns-clause-journal : goal.returns-clause-journal
returns-clause-journal g c = subst (λ (v : Cell). IsJournal v.live v.journal) c.self.view_is c.self.invariant.journal

pub returns-clause-payload : goal.returns-clause-payload
returns-clause-payload g c = subst (λ (v : Cell). IsWithinBytes v.journal.log) c.self.view_is (few_bytes _ _ _ _ _ c.self.invariant)
