use Rattle.std.proofs.Common.{subst}
use Rattle.server_core.specs.Counted.{IsSound}
use Rattle.server_core.specs.Members.{IsSeated}
use Rattle.server_core.specs.Served.{AllMembers}
use Rattle.server_core.specs.Journals.{ComesOfJournal}
use Rattle.server_core.proofs.Sound.{sound}
use Rattle.server_core.proofs.server.Server.kept.Goals as goal

pub returns : goal.returns
returns g c =
    let i = c.self.inside in
    let comes = subst (AllMembers ComesOfJournal) c.deref.ensures.value c.kept_each.ensures.journal in
    let seated = subst (AllMembers IsSeated) c.deref.ensures.value c.kept_each.ensures.seated in
    subst IsSound c.self.view_is (sound i.members.items (g.E.Eligibility.contents i.eligible) (g.E.Eligibility.asked i.eligible) i.latest i.inflight i.served c.self.invariant comes seated)
