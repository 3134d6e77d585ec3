use Rattle.std.proofs.Common.{◌≡◌, ◌+◌, ◌-◌, ◌≤◌, ◌∷◌, vec_len, replicate}
use Rattle.std.specs.Vec.{vec_capacity}
use Rattle.server_lock.specs.Scores.{unused}
use Rattle.server_lock.proofs.turns.cut.Given as goal

abbrev pub invariant-loop-i : goal.invariant-loop-i
invariant-loop-i g l = record {
  parts : l.others.parts + l.i ≡ l.n;
  amount : l.others.amount ≡ 0;
  items : l.passes.items ≡ unused l.fn.first.amount ∷ replicate (l.i - 1) (unused 0);
  len : vec_len l.passes ≡ l.i;
  room : l.n ≤ vec_capacity l.passes;
}
