use Rattle.std.proofs.Common.{◌≡◌, ◌+◌, ◌≤◌}
use Rattle.payload.proofs.spares.Spares.pass.Given as goal

abbrev pub invariant-loop-self : goal.invariant-loop-self
invariant-loop-self g l = record {
  none_lost : l.self + l.others ≡ l.fn.self + l.fn.others;
  fewer : l.self ≤ l.fn.self;
  left : l.left ≤ l.fn.self → l.left ≤ l.self;
  same : l.fn.self ≤ l.left → l.self ≡ l.fn.self;
}

abbrev pub decreases-loop-self : goal.decreases-loop-self
decreases-loop-self g l = l.self
