use Rattle.std.proofs.Common.{◌<◌, ◌≤◌, length, sym, ◌∙◌, ap, rules}
use Rattle.server_core.specs.Served.{answer_of_take}
use Rattle.server_core.proofs.Served.{kept_own, take_told}
use Rattle.server_core.proofs.Made.{takes, makes_absent, makes_own}
use Rattle.server_core.proofs.server.Server.take_reply.Goals as goal

pub returns-then-session-len : goal.returns-then-session-len
returns-then-session-len g c =
    let i = c.self.inside in
    let le : length i.members.items ≤ c.args.session.export = search rules in
    makes_absent i.members.items i.latest i.inflight (takes c.args.session.export c.args.session.number).of c.self.view_is le

pub invariant_of-self : goal.invariant_of-self
invariant_of-self g c =
    let lt : c.args.session.export < length c.self.inside.members.items = search rules in
    kept_own c.args.session.export c.self.invariant lt c.index_mut-member.ensures.value c.take.ensures.went

pub returns : goal.returns
returns g c =
    let i = c.self.inside in
    let e = c.args.session.export in
    let lt : e < length i.members.items = search rules in
    makes_own i.members.items i.latest i.inflight (takes e c.args.session.number) c.self.view_is lt c.index_mut-member.ensures.value c.take.ensures.went c.take.ensures.journal
    (take_told e c.take.result ∙ ap answer_of_take (sym c.here.ensures))
