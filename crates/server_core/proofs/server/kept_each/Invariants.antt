use Rattle.std.proofs.Common.{take}
use Rattle.server_core.specs.Members.{IsSeated}
use Rattle.server_core.specs.Served.{AllMembers}
use Rattle.server_core.specs.Journals.{ComesOfJournal}
use Rattle.server_core.proofs.server.kept_each.Given as goal

abbrev pub invariant-loop-member : goal.invariant-loop-member
invariant-loop-member g l = AllMembers ComesOfJournal (take l.member-index l.members) × AllMembers IsSeated (take l.member-index l.members)
