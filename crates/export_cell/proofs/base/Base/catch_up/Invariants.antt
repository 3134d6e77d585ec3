use Rattle.export_cell.proofs.Queues.{IsCatching}
use Rattle.export_cell.proofs.base.Base.catch_up.Given as goal

abbrev pub invariant-loop-left : goal.invariant-loop-left
invariant-loop-left g l = IsCatching l.fn.most l.left l.fn.self l.self

abbrev pub decreases-loop-left : goal.decreases-loop-left
decreases-loop-left g l = l.left
