use Rattle.std.proofs.Common.{◌∙◌}
use Rattle.export_queue.proofs.Rows.{waiting_item}
use Rattle.export_queue.proofs.ExportQueue.waiting_at.Goals as goal

pub returns : goal.returns
returns g c =
    let i = c.self.inside in
    rw (← c.self.view_is) (c.get.ensures ∙ waiting_item i.ring i.out i.picked i.inflight c.args.place)
