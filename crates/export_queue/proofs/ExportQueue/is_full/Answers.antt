use Rattle.export_queue.proofs.Rows.{full_view}
use Rattle.export_queue.proofs.ExportQueue.is_full.Goals as goal

pub returns : goal.returns
returns g c =
    let i = c.self.inside in
    rw (c.is_full.ensures, ← c.self.view_is) (full_view i.ring i.out i.picked i.inflight)
