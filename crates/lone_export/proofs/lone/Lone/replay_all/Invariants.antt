use Rattle.std.proofs.Common.{◌≡◌, ◌≤◌, ◌+◌, length, take}
use Rattle.std.specs.Vec.{vec_len, vec_capacity}
use Rattle.lone_export.specs.Lone.{IsReplayed}
use Rattle.lone_export.proofs.lone.Lone.replay_all.Given as goal

-- the steps so far were made, and there is room for the answers of the others
abbrev pub invariant-loop-step : goal.invariant-loop-step
invariant-loop-step g l = record {
  count : l.made ≡ l.step-index;
  within : l.made ≤ length l.steps;
  so_far : IsReplayed l.fn.self l.self (take l.made l.steps) l.fn.answers.items l.answers.items;
  room : vec_len l.answers + length l.steps ≤ l.made + vec_capacity l.answers;
}
