use Rattle.std.proofs.Common.{◌≡◌, ◌∙◌, nat_eq, length, sym, ap, arith}
use Rattle.page_table.specs.Holes.{Holes, is_noted, rows_before}
use Rattle.page_table.proofs.HolesLemmas.{Row, noted_at, noted_past}
use Rattle.page_table.proofs.holes.Holes.has.Goals as goal

pub returns-then-at-len : goal.returns-then-at-len
returns-then-at-len g c =
    let i = c.self.inside in
    let same : length i.rows.items ≡ length c.args.self.now.rows = ap (λ (h : Holes). length h.rows) c.self.view_is in
    sym (noted_past c.args.self.now.rows c.args.page c.args.at c.requires (omega (arith, same, c.len.ensures, c.if-at-len.true, i.rows.ok.0)))

pub returns : goal.returns
returns g c =
    let i = c.self.inside in
    let place : c.args.at ≡ rows_before i.rows.items c.args.page = c.requires ∙ ap (λ (h : Holes). rows_before h.rows c.args.page) (sym c.self.view_is) in
    sym (noted_at c.index.result.now 0 i.rows.items c.args.page c.args.at c.self.invariant.0 place (omega (arith, c.len.ensures, c.if-at-len.false, i.rows.ok.0))
    ∙ ap (λ (row : Row). nat_eq row.0 c.args.page) (sym c.index.ensures))
    ∙ ap (λ (h : Holes). is_noted h.rows c.args.page) c.self.view_is
