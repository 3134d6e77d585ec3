use Rattle.std.proofs.Common.{◌<◌, ◌^◌, List, length, sym, ◌∙◌, ap, subst}
use Rattle.std.specs.Prelude.{filter, not}
use Rattle.std.specs.List.{sum_by}
use Rattle.server_table.specs.Table.{Row}
use Rattle.server_core.specs.Members.{Standing}
use Rattle.server_core.specs.Served.{Served}
use Rattle.server_core.proofs.Dispatched.{waits_all, waits_few}
use Rattle.server_core.proofs.server.Server.waiting.Goals as goal

pub waiting_of-requires : goal.waiting_of-requires
waiting_of-requires g c =
    let i = c.self.inside in
    subst (λ (l : List Standing). sum_by (λ (m : Standing). length m.part.waiting) l < 2 ^ 63) (sym c.deref.ensures.value)
    (waits_few i.members.items (g.E.Eligibility.contents i.eligible) (g.E.Eligibility.asked i.eligible) i.latest i.inflight i.served c.self.invariant)

pub returns : goal.returns
returns g c =
    let i = c.self.inside in
    c.waiting_of.ensures
    ∙ ap (λ (l : List Standing). sum_by (λ (m : Standing). length m.part.waiting) l) c.deref.ensures.value
    ∙ waits_all i.members.items i.latest i.inflight
    ∙ ap (λ (v : Served). length (filter (λ (row : Row). not row.out) v.table.rows)) c.self.view_is
