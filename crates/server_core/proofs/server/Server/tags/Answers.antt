use Rattle.std.proofs.Common.{◌<◌, length, sym, ◌∙◌, ap, subst, rules}
use Rattle.server_core.specs.Served.{Served, waiting_tags}
use Rattle.server_core.proofs.Tagged.{tags_there, exports_there}
use Rattle.server_core.proofs.server.Server.tags.Goals as goal

pub returns-in-Ok-clause-told : goal.returns-in-Ok-clause-told
returns-in-Ok-clause-told g c =
    let i = c.self.inside in
    let e = c.args.export in
    let lt : e < length i.members.items = search rules in (
      subst (λ (v : Served). e < length v.setup.exports) c.self.view_is (subst (λ n. e < n) (sym (exports_there i.members.items i.latest i.inflight)) lt),
      c.in-Ok.ensures ∙ tags_there i.members.items i.latest i.inflight e c.index.result.now lt c.index.ensures ∙ ap (λ (v : Served). waiting_tags e v.table) c.self.view_is,
    )
