use Rattle.std.proofs.Common.{◌≡◌, ◌+◌}
use Rattle.server_lock.proofs.turns.add_steps.Given as goal

abbrev pub invariant-loop-left : goal.invariant-loop-left
invariant-loop-left g l = record {
  total : l.book.total + l.left ≡ l.fn.book.total + l.steps;
  amount : l.share.amount + l.left ≡ l.fn.share.amount + l.steps;
  parts : l.share.parts ≡ l.fn.share.parts;
}

abbrev pub decreases-loop-left : goal.decreases-loop-left
decreases-loop-left g l = l.left
