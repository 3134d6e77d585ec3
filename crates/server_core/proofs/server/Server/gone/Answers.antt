use Rattle.std.proofs.Common.{◌<◌, ◌≤◌, length, sym, ◌∙◌, ap, rules}
use Rattle.server_core.specs.Served.{answer_of_gone}
use Rattle.server_core.proofs.Served.{kept_own, gone_told}
use Rattle.server_core.proofs.Made.{drops, makes_absent, makes_own}
use Rattle.server_core.proofs.server.Server.gone.Goals as goal

pub returns-then-session-len : goal.returns-then-session-len
returns-then-session-len g c =
    let i = c.self.inside in
    let le : length i.members.items ≤ c.args.session.export = search rules in
    makes_absent i.members.items i.latest i.inflight (drops c.args.session.export c.args.session.number).of c.self.view_is le

pub invariant_of-self : goal.invariant_of-self
invariant_of-self g c =
    let lt : c.args.session.export < length c.self.inside.members.items = search rules in
    kept_own c.args.session.export c.self.invariant lt c.index_mut-member.ensures.value c.gone.ensures.went

pub returns : goal.returns
returns g c =
    let i = c.self.inside in
    let e = c.args.session.export in
    let lt : e < length i.members.items = search rules in
    makes_own i.members.items i.latest i.inflight (drops e c.args.session.number) c.self.view_is lt c.index_mut-member.ensures.value c.gone.ensures.went c.gone.ensures.journal
    (gone_told e c.gone.result ∙ ap answer_of_gone (sym c.here.ensures))
