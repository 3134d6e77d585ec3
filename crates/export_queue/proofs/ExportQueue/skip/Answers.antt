use Rattle.std.proofs.Common.{ap, ◌∙◌}
use Rattle.export_queue.specs.Queue.{Queue, after_skip}
use Rattle.export_queue.proofs.Rows.{skip_view}
use Rattle.export_queue.proofs.ExportQueue.skip.Goals as goal

pub returns : goal.returns
returns g c =
    let i = c.self.inside in
    skip_view i.ring i.out i.picked i.inflight (ap (λ (q : Queue g.row.T.Denot). q.waiting) c.self.view_is ∙ c.requires.none) ∙ ap (λ (q : Queue g.row.T.Denot). after_skip q) c.self.view_is
