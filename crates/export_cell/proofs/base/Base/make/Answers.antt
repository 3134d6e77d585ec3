use Rattle.std.proofs.Common.{length, ap, subst, ◌∙◌}
use Rattle.step_log.specs.Steps.{kept_step, kept_log}
use Rattle.export_cell.specs.Based.{Based, based, Follows}
use Rattle.export_cell.proofs.Kept.{goes_makes}
use Rattle.export_cell.proofs.Queues.{value-made}
use Rattle.export_cell.proofs.base.Base.make.Goals as goal

pub returns-clause-ok : goal.returns-clause-ok
returns-clause-ok g c =
    let A = g.row.I-Alloc.Denot in
    let i = c.self.inside in
    let one = c.args.step in
    let new = c.replay.new.self in
    let queue = kept_log i.queue.items in
    let none = ap (λ (b : Based). length b.queue) c.self.view_is ∙ c.requires.first in
    subst (λ (b : Based). Follows b (based new queue) (kept_step one)) c.self.view_is
    (value-made i.replica new (kept_step one) _ (goes_makes A i.replica new one c.in_default.ensures.ok) queue none)
