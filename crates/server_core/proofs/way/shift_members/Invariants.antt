use Rattle.std.proofs.Common.{◌≡◌, take, drop, ◌++◌, map}
use Rattle.server_core.specs.Members.{shifted_standing}
use Rattle.server_core.proofs.way.shift_members.Given as goal

abbrev pub invariant-loop-member : goal.invariant-loop-member
invariant-loop-member g l = l.members ≡ map (shifted_standing l.delta) (take l.member-index l.fn.members) ++ drop l.member-index l.fn.members
