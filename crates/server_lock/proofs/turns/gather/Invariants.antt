use Rattle.std.proofs.Common.{◌≡◌, ◌+◌, length}
use Rattle.std.specs.List.{sum_by}
use Rattle.server_lock.proofs.turns.gather.Given as goal

abbrev pub invariant-loop-pass : goal.invariant-loop-pass
invariant-loop-pass g l = record {
  parts : l.all.parts ≡ l.fn.all.parts + length l.yielded;
  amount : l.all.amount ≡ l.fn.all.amount + sum_by (λ p. p.share) l.yielded;
}
