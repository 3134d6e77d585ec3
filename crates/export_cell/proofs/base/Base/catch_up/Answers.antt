use Rattle.std.proofs.Common.{◌≤◌, ◌+◌, arith}
use Rattle.export_cell.proofs.Queues.{catching-more}
use Rattle.export_cell.proofs.base.Base.catch_up.Goals as goal

pub loop-left-preserved : goal.loop-left-preserved
loop-left-preserved g c =
    let one = c.in-Ok.ensures.ok.1 in
    let some = c.loop-left-test.true in
    let less = c.saturating_sub-left.ensures in
    let down : c.saturating_sub-left.result + 1 ≤ c.loop-left.left = omega arith in
    catching-more c.args.most c.loop-left.left c.saturating_sub-left.result c.args.self.now c.loop-left.self c.make_oldest.new.self c.loop-left.invariant down c.in-Ok.ensures.ok.0
