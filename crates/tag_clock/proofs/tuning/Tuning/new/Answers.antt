use Rattle.std.proofs.Common.{arith}
use Rattle.tag_clock.proofs.Bounds.{intervals_bounded}
use Rattle.tag_clock.proofs.tuning.Tuning.new.Goals as goal

pub invariant_of-result : goal.invariant_of-result
invariant_of-result c =
    rw (c.reservation_interval.ensures, c.limit_interval.ensures, c.weight_interval.ensures)
    (intervals_bounded c.args.reservation c.args.limit c.args.weight c.if-reservation-gt-MOST.false c.if-limit-gt-MOST.false (omega arith) c.if-weight-gt-MOST.false)
