use Rattle.std.proofs.Common.{length, sym, ◌∙◌, ap}
use Rattle.lone_export.specs.Lone.{Whole}
use Rattle.server_core.specs.Members.{Standing}
use Rattle.server_core.proofs.Picking.{entries_length}
use Rattle.server_core.proofs.member.Member.waiting.Goals as goal

pub returns : goal.returns
returns g c =
    let i = c.self.inside in
    c.waiting.ensures ∙ ap (λ (w : Whole). length w.state.waiting) c.live.ensures ∙ sym (entries_length i.cell.live.state.waiting i.waiting.items c.self.invariant.tagged) ∙ ap (λ (v : Standing). length v.part.waiting) c.self.view_is
