use Rattle.std.proofs.Common.{◌≤◌, take, length, sym, add-one, subst, rules}
use Rattle.std.proofs.lemmas.List.{take_all}
use Rattle.server_core.specs.Members.{IsSeated}
use Rattle.server_core.specs.Served.{AllMembers}
use Rattle.server_core.specs.Journals.{ComesOfJournal}
use Rattle.server_core.proofs.Cells.{members_more}
use Rattle.server_core.proofs.server.kept_each.Goals as goal

pub loop-member-preserved : goal.loop-member-preserved
loop-member-preserved g c = (
  subst (λ n. AllMembers ComesOfJournal (take n c.args.members.now)) (sym (add-one c.loop-member.member-index))
      (members_more ComesOfJournal c.args.members.now c.loop-member.member-index c.member-item.result c.loop-member-test.true c.member-item.is c.loop-member.invariant.0 c.kept.ensures.journal),
  subst (λ n. AllMembers IsSeated (take n c.args.members.now)) (sym (add-one c.loop-member.member-index))
      (members_more IsSeated c.args.members.now c.loop-member.member-index c.member-item.result c.loop-member-test.true c.member-item.is c.loop-member.invariant.1 c.kept.ensures.seated),
)

pub returns-clause-journal : goal.returns-clause-journal
returns-clause-journal g c =
    let n : length c.args.members.now ≤ c.loop-member.member-index = search rules in
    subst (AllMembers ComesOfJournal) (take_all c.loop-member.member-index c.args.members.now n) c.loop-member.invariant.0

pub returns-clause-seated : goal.returns-clause-seated
returns-clause-seated g c =
    let n : length c.args.members.now ≤ c.loop-member.member-index = search rules in
    subst (AllMembers IsSeated) (take_all c.loop-member.member-index c.args.members.now n) c.loop-member.invariant.1
