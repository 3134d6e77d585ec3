use Rattle.std.proofs.Common.{◌≤◌, length, sym, ◌∙◌, ap, subst, arith, rules}
use Rattle.std.specs.List.{All}
use Rattle.server_core.specs.Kept.{AreShort}
use Rattle.server_core.specs.Members.{Standing}
use Rattle.std.proofs.lemmas.List.Elements.{All-push}
use Rattle.std.proofs.lemmas.List.{take_all}
use Rattle.server_core.proofs.Opened.{opened, opened_more}
use Rattle.server_core.proofs.server.open_members.Goals as goal

pub loop-export-init : goal.loop-export-init
loop-export-init g c = record {
  members = c.in_ok-members.ensures.items;
  short = subst (All (λ (member : Standing). AreShort member.part.rates)) (sym c.in_ok-members.ensures.items) (λ k d lt. absurd (omega arith));
}

pub loop-export-preserved : goal.loop-export-preserved
loop-export-preserved g c = record {
  members = opened_more c.args.inflight c.args.exports.now c.loop-export.export-index c.export-item.result c.loop-export.members.items c.push.new.self.items c.in_ok-member.member c.loop-export-test.true c.export-item.is c.loop-export.invariant.members c.in_ok-member.ensures.0 c.in_ok-push.ensures.items;
  short = subst (All (λ (member : Standing). AreShort member.part.rates)) (sym c.in_ok-push.ensures.items)
      (All-push (λ (member : Standing). AreShort member.part.rates) c.loop-export.members.items c.in_ok-member.member c.loop-export.invariant.short
      (subst (λ (m : Standing). AreShort m.part.rates) (sym c.in_ok-member.ensures.0) c.in_ok-member.ensures.1));
}

pub returns-clause-members : goal.returns-clause-members
returns-clause-members g c =
    let n : length c.args.exports.now ≤ c.loop-export.export-index = search rules in
    c.loop-export.invariant.members ∙ ap (opened c.args.inflight) (take_all c.loop-export.export-index c.args.exports.now n)
