use Rattle.std.proofs.Common.{◌≡◌, take, length}
use Rattle.std.specs.List.{sum_by}
use Rattle.server_core.specs.Members.{Standing}
use Rattle.server_core.proofs.server.waiting_of.Given as goal

abbrev pub invariant-loop-member : goal.invariant-loop-member
invariant-loop-member g l = l.total ≡ sum_by (λ (m : Standing). length m.part.waiting) (take l.member-index l.members)
