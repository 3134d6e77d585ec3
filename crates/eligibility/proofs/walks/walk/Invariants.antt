use Rattle.std.proofs.Common.{◌≡◌, ◌≤◌, ◌++◌, drop, replicate, None}
use Rattle.eligibility.specs.Walk.{walked}
use Rattle.eligibility.proofs.walks.walk.Given as goal

abbrev pub invariant-loop-op : goal.invariant-loop-op
invariant-loop-op g l = record {
  same : g.E.Eligibility.contents l.index ≡ l.held.items;
  asked : g.E.Eligibility.asked l.index ≤ l.asked;
  told : l.answers.items ++ walked (drop l.op-index l.ops) l.held.items l.asked ≡ walked l.ops (replicate l.fn.n None) 0;
}
