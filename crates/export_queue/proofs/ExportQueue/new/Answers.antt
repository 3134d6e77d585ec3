use Rattle.std.proofs.Common.{ap, length}
use Rattle.circular_buffer.specs.Buffer.{Buffer}
use Rattle.export_queue.proofs.Rows.{IsQueue-new}
use Rattle.export_queue.proofs.ExportQueue.new.Goals as goal

pub invariant_of-result : goal.invariant_of-result
invariant_of-result g c = IsQueue-new _ _ _ c.in_ok-out.ensures.empty (ap (λ (b : Buffer g.row.T.Denot). length b.items) c.in_ok-ring.ensures) c.in_ok-out.ensures.capacity
