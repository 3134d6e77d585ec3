use Rattle.std.proofs.Common.{◌≤◌, List, length, sym, ◌∙◌, ap, subst}
use Rattle.std.specs.List.{sum_by}
use Rattle.std.proofs.lemmas.List.{length-map}
use Rattle.server_table.specs.Table.{Side}
use Rattle.server_core.specs.Members.{Standing}
use Rattle.server_core.specs.Served.{Served}
use Rattle.server_core.proofs.Counting.{steps_all}
use Rattle.server_core.proofs.server.Server.steps.Goals as goal

pub steps_of-requires : goal.steps_of-requires
steps_of-requires g c =
    let i = c.self.inside in
    subst (λ (l : List Standing). length l ≤ 64) (sym c.deref.ensures.value)
    (subst (λ n. n ≤ 64) (length-map i.members.items (λ (x : Standing). x.part)) c.self.invariant.server.few)

pub returns : goal.returns
returns g c =
    let i = c.self.inside in
    c.steps_of.ensures
    ∙ ap (λ (l : List Standing). sum_by (λ (m : Standing). m.part.count) l) c.deref.ensures.value
    ∙ steps_all i.members.items
    ∙ ap (λ (v : Served). sum_by (λ (one : Side). one.count) v.table.sides) c.self.view_is
