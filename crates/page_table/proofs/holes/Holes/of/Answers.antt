use Rattle.std.proofs.Common.{◌≡◌, ◌∙◌, ℕ, List, true, sym, ap, arith}
use Rattle.number_sets.specs.Bits.{is_set}
use Rattle.page_table.specs.Holes.{Holes, is_hole, is_noted, rows_before}
use Rattle.page_table.proofs.HolesLemmas.{Row, noted_within, no_hole, hole_at}
use Rattle.page_table.proofs.holes.Holes.of.Goals as goal

pub returns-then-not-has-clause-none : goal.returns-then-not-has-clause-none
returns-then-not-has-clause-none g c = λ absent k. no_hole c.args.self.now.rows c.args.page k (sym c.has.ensures ∙ c.if-not-has.true)

pub index-requires : goal.index-requires
index-requires g c =
    let i = c.self.inside in
    let page : ℕ = c.args.page in
    let place : c.find-at.result ≡ rows_before i.rows.items page = c.find-at.ensures.place ∙ ap (λ (h : Holes). rows_before h.rows page) (sym c.self.view_is) in
    let noted : is_noted i.rows.items page ≡ true = ap (λ (h : Holes). is_noted h.rows page) c.self.view_is ∙ sym c.has.ensures ∙ c.if-not-has.false in
    omega (arith, noted_within i.rows.items page c.find-at.result place noted, i.rows.ok.0)

pub returns-clause-some : goal.returns-clause-some
returns-clause-some g c = λ k.
    let i = c.self.inside in
    let page : ℕ = c.args.page in
    let place : c.find-at.result ≡ rows_before i.rows.items page = c.find-at.ensures.place ∙ ap (λ (h : Holes). rows_before h.rows page) (sym c.self.view_is) in
    let noted : is_noted i.rows.items page ≡ true = ap (λ (h : Holes). is_noted h.rows page) c.self.view_is ∙ sym c.has.ensures ∙ c.if-not-has.false in
    sym (ap (λ (h : Holes). is_hole h.rows page k) c.self.view_is)
    ∙ hole_at c.index.result.now 0 i.rows.items page c.find-at.result k c.self.invariant.0 place noted
    ∙ ap (λ (row : Row). is_set row.1 k) (sym c.index.ensures)
    ∙ ap (λ (words : List ℕ). is_set words k) (sym c.as_slice.ensures)
