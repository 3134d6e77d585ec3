use Rattle.std.proofs.Common.{◌-◌, ◌≤◌, length}
use Rattle.page_table.specs.Holes.{rows_before}
use Rattle.page_table.proofs.holes.Holes.find.Given as goal

abbrev pub invariant-loop-from : goal.invariant-loop-from
invariant-loop-from g l = record {
  begun : l.from ≤ rows_before l.self.rows l.page;
  upto : rows_before l.self.rows l.page ≤ l.to;
  within : l.to ≤ length l.self.rows;
}

abbrev pub decreases-loop-from : goal.decreases-loop-from
decreases-loop-from g l = l.to - l.from
