use Rattle.std.proofs.Common.{sym, ◌∙◌, ap}
use Rattle.lone_export.specs.Lone.{Whole}
use Rattle.server_core.specs.Members.{Standing}
use Rattle.server_core.proofs.Tagged.{number_in, told_at, told_in, none_without_tags, none_without_number}
use Rattle.server_core.proofs.member.Member.tags_at.Goals as goal

pub returns-in_default : goal.returns-in_default
returns-in_default g c =
    let i = c.self.inside in
    none_without_tags i.cell.live.state.waiting i.waiting.items c.args.place (sym c.tags_in.ensures ∙ c.in_default.is) ∙ ap (λ (v : Standing). told_in v.part.waiting c.args.place) c.self.view_is

pub returns-in_default-number_at : goal.returns-in_default-number_at
returns-in_default-number_at g c =
    let i = c.self.inside in
    none_without_number i.cell.live.state.waiting i.waiting.items c.args.place (ap (λ (w : Whole). number_in w.state.waiting c.args.place) (sym c.live.ensures) ∙ sym c.number_at.ensures ∙ c.in_default-number_at.is) ∙ ap (λ (v : Standing). told_in v.part.waiting c.args.place) c.self.view_is

pub returns : goal.returns
returns g c =
    let i = c.self.inside in
    told_at i.cell.live.state.waiting i.waiting.items c.args.place c.in-Some-number_at.number c.in-Some.tags (ap (λ (w : Whole). number_in w.state.waiting c.args.place) (sym c.live.ensures) ∙ sym c.number_at.ensures ∙ c.in-Some-number_at.is) (sym c.tags_in.ensures ∙ c.in-Some.is)
    ∙ ap (λ (v : Standing). told_in v.part.waiting c.args.place) c.self.view_is
