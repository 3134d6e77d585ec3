use Rattle.std.proofs.Common.{◌≡◌, ◌≤◌, ◌*◌, ◌^◌, take}
use Rattle.std.specs.List.{sum_by}
use Rattle.server_core.specs.Members.{Standing}
use Rattle.server_core.proofs.server.steps_of.Given as goal

abbrev pub invariant-loop-member : goal.invariant-loop-member
invariant-loop-member g l = (l.total ≡ sum_by (λ (m : Standing). m.part.count) (take l.member-index l.members)) × (l.total ≤ l.member-index * 2 ^ 64)
