use Rattle.std.proofs.Common.{◌≡◌, ◌∙◌, ◌&&◌, ◌==◌, ℕ, [], true, not, sym, ap, subst, arith}
use Rattle.page_table.specs.Holes.{Holes, is_hole, is_noted, rows_before, AreOrdered}
use Rattle.page_table.proofs.HolesLemmas.{Rows, noted_within, noted_is, remove_ordered, remove_noted, remove_hole, none_hole}
use Rattle.page_table.proofs.holes.Holes.fill.Goals as goal

pub remove-requires : goal.remove-requires
remove-requires g c =
    let i = c.self.inside in
    let page : ℕ = c.args.page in
    let place : c.find-at.result ≡ rows_before i.rows.items page = c.find-at.ensures.place ∙ ap (λ (h : Holes). rows_before h.rows page) (sym c.self.view_is) in
    let noted : is_noted i.rows.items page ≡ true = ap (λ (h : Holes). is_noted h.rows page) c.self.view_is ∙ sym c.has.ensures ∙ c.if-has.true in
    omega (arith, noted_within i.rows.items page c.find-at.result place noted, i.rows.ok.0)

pub invariant_of-self : goal.invariant_of-self
invariant_of-self g c =
    let i = c.self.inside in
    (subst (λ (rows : Rows). AreOrdered 0 rows) (sym c.remove.ensures.items) (remove_ordered 0 i.rows.items c.find-at.result c.self.invariant.0), omega (arith, c.remove.ensures.capacity, c.self.invariant.1))

pub returns-then-has-clause-noted : goal.returns-then-has-clause-noted
returns-then-has-clause-noted g c = λ p.
    let i = c.self.inside in
    let page : ℕ = c.args.page in
    let at : ℕ = c.find-at.result in
    let place : at ≡ rows_before i.rows.items page = c.find-at.ensures.place ∙ ap (λ (h : Holes). rows_before h.rows page) (sym c.self.view_is) in
    let noted : is_noted i.rows.items page ≡ true = ap (λ (h : Holes). is_noted h.rows page) c.self.view_is ∙ sym c.has.ensures ∙ c.if-has.true in
    ap (λ (rows : Rows). is_noted rows p) c.remove.ensures.items
    ∙ remove_noted (0, []) 0 i.rows.items page at p c.self.invariant.0 (noted_within i.rows.items page at place noted) (noted_is (0, []) 0 i.rows.items page at c.self.invariant.0 place noted)
    ∙ ap (λ (h : Holes). is_noted h.rows p && not (p == page)) c.self.view_is

pub returns-then-has-clause-holes : goal.returns-then-has-clause-holes
returns-then-has-clause-holes g c = λ p k.
    let i = c.self.inside in
    let page : ℕ = c.args.page in
    let at : ℕ = c.find-at.result in
    let place : at ≡ rows_before i.rows.items page = c.find-at.ensures.place ∙ ap (λ (h : Holes). rows_before h.rows page) (sym c.self.view_is) in
    let noted : is_noted i.rows.items page ≡ true = ap (λ (h : Holes). is_noted h.rows page) c.self.view_is ∙ sym c.has.ensures ∙ c.if-has.true in
    ap (λ (rows : Rows). is_hole rows p k) c.remove.ensures.items
    ∙ remove_hole (0, []) 0 i.rows.items page at p k c.self.invariant.0 (noted_within i.rows.items page at place noted) (noted_is (0, []) 0 i.rows.items page at c.self.invariant.0 place noted)
    ∙ ap (λ (h : Holes). is_hole h.rows p k && not (p == page)) c.self.view_is

pub returns-else-has-clause-holes : goal.returns-else-has-clause-holes
returns-else-has-clause-holes g c = λ p k. none_hole c.args.self.now.rows c.args.page p k (sym c.has.ensures ∙ c.if-has.false)
