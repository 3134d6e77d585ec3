use Rattle.std.proofs.Common.{◌≡◌, ◌<◌, length, subst, rules}
use Rattle.server_core.specs.Members.{Standing}
use Rattle.server_core.specs.Served.{Served}
use Rattle.server_core.specs.Journals.{IsCellOf}
use Rattle.server_core.proofs.Served.{member_at}
use Rattle.server_core.proofs.Journals.{cell_of_export}
use Rattle.server_core.proofs.server.Server.journal.Goals as goal

pub returns-clause-cell : goal.returns-clause-cell
returns-clause-cell g c =
    let i = c.self.inside in
    let ms = i.members.items in
    let e = c.args.export in
    let lt : e < length ms = search rules in
    let m = c.index.result.now in
    let at = c.index.ensures in
    let room = member_at (λ (x : Standing). x.inflight ≡ i.inflight) ms e m c.self.invariant.room lt at in
    subst (λ (v : Served). IsCellOf v e c.cell.result.now) c.self.view_is
    (cell_of_export ms i.latest i.inflight e m c.cell.result.now lt at room c.cell.ensures.terms c.cell.ensures.inflight c.cell.ensures.live c.cell.ensures.journal c.cell.ensures.kept)
