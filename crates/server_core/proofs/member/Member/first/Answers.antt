use Rattle.std.proofs.Common.{sym, ◌∙◌, ap}
use Rattle.server_table.specs.Order.{head_tags}
use Rattle.server_core.specs.Members.{Standing}
use Rattle.server_core.proofs.Picking.{head_is}
use Rattle.server_core.proofs.member.Member.first.Goals as goal

pub returns : goal.returns
returns g c =
    let i = c.self.inside in
    c.tags_in.ensures ∙ sym (head_is i.cell.live.state.waiting i.waiting.items c.self.invariant.tagged) ∙ ap (λ (v : Standing). head_tags v.part.waiting) c.self.view_is
