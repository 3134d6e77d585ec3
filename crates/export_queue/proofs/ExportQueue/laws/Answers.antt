use Rattle.std.proofs.Common.{◌≤◌, length, subst, arith}
use Rattle.export_queue.specs.Queue.{Queue, IsInOrder}
use Rattle.export_queue.proofs.Rows.{queue_order}
use Rattle.export_queue.proofs.ExportQueue.laws.Goals as goal

pub returns : goal.returns
returns g c =
    let i = c.self.inside in
    let counted = c.len.ensures.len in
    let within = c.len.ensures.within.0 in
    let fits : length i.ring.items ≤ i.ring.capacity = omega arith in
    subst (λ (q : Queue g.row.T.Denot). IsInOrder q) c.self.view_is (queue_order i.ring i.out i.picked i.inflight c.self.invariant fits)
