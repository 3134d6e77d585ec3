use Rattle.std.proofs.Common.{◌<◌, ◌≤◌, find, length, sym, ◌∙◌, ap, rules}
use Rattle.std.specs.Prelude.{is_some}
use Rattle.server_table.specs.Steps.{is_out_row}
use Rattle.server_core.specs.Served.{Served}
use Rattle.server_core.proofs.Performed.{row_out, none_beyond}
use Rattle.server_core.proofs.server.Server.find.Goals as goal

pub returns-then-export-len-clause-out : goal.returns-then-export-len-clause-out
returns-then-export-len-clause-out g c =
    let i = c.self.inside in
    let le : length i.members.items ≤ c.args.export = search rules in
    ap is_some (sym (none_beyond i.members.items i.latest i.inflight c.args.export c.args.number le)) ∙ ap (λ (v : Served). is_some (find (is_out_row c.args.export c.args.number) v.table.rows)) c.self.view_is

pub returns-in_default-clause-out : goal.returns-in_default-clause-out
returns-in_default-clause-out g c =
    let i = c.self.inside in
    let lt : c.args.export < length i.members.items = search rules in
    c.in_default.ensures.out ∙ row_out i.members.items i.latest i.inflight c.args.export c.args.number c.index.result.now lt c.index.ensures ∙ ap (λ (v : Served). is_some (find (is_out_row c.args.export c.args.number) v.table.rows)) c.self.view_is

pub returns-clause-out : goal.returns-clause-out
returns-clause-out g c =
    let i = c.self.inside in
    let lt : c.args.export < length i.members.items = search rules in
    c.in-Some.ensures.out ∙ row_out i.members.items i.latest i.inflight c.args.export c.args.number c.index.result.now lt c.index.ensures ∙ ap (λ (v : Served). is_some (find (is_out_row c.args.export c.args.number) v.table.rows)) c.self.view_is
