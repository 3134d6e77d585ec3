use Rattle.std.proofs.Common.{◌∙◌, List, sym, ap, subst}
use Rattle.server_core.specs.Members.{Standing}
use Rattle.server_core.specs.Served.{IsServed, served_of}
use Rattle.server_core.proofs.Cells.{put_back}
use Rattle.server_core.proofs.server.Server.sweep.Goals as goal

pub invariant_of-self : goal.invariant_of-self
invariant_of-self g c =
    let i = c.self.inside in
    let same = put_back i.members.items c.args.export c.index_mut.result.now c.sweep.new.self c.sweep.ensures c.index_mut.ensures.value in
    subst (λ (ms : List Standing). IsServed ms (g.E.Eligibility.contents i.eligible) (g.E.Eligibility.asked i.eligible) i.latest i.inflight i.served) (sym same) c.self.invariant

pub returns : goal.returns
returns g c =
    let i = c.self.inside in
    let same = put_back i.members.items c.args.export c.index_mut.result.now c.sweep.new.self c.sweep.ensures c.index_mut.ensures.value in
    ap (λ (ms : List Standing). served_of ms i.latest i.inflight) same ∙ c.self.view_is
