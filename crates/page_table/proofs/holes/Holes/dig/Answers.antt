use Rattle.std.proofs.Common.{◌≡◌, ◌∙◌, ◌+◌, ◌||◌, ◌&&◌, ◌==◌, ℕ, List, true, set, sym, ap, subst, arith}
use Rattle.number_sets.specs.Bits.{is_set, is_between}
use Rattle.page_table.specs.Holes.{Holes, is_hole, is_noted, rows_before, AreOrdered}
use Rattle.page_table.proofs.HolesLemmas.{Row, opened, dug, is_page, noted_within, noted_is, hole_at, set_ordered, set_noted, set_hole}
use Rattle.page_table.proofs.holes.Holes.dig.Goals as goal

pub index_mut-requires : goal.index_mut-requires
index_mut-requires g c =
    let i = c.self.inside in
    let page : ℕ = c.args.page in
    let place : c.find-at.result ≡ rows_before i.rows.items page = c.open.ensures.place ∙ ap (λ (h : Holes). rows_before h.rows page) (sym c.self.view_is) in
    let noted : is_noted i.rows.items page ≡ true = ap (λ (h : Holes). is_noted h.rows page) c.self.view_is ∙ c.open.ensures.noted page ∙ opened (is_noted c.args.self.now.rows page) page in
    omega (arith, noted_within i.rows.items page c.find-at.result place noted, i.rows.ok.0)

pub invariant_of-self : goal.invariant_of-self
invariant_of-self g c =
    let i = c.self.inside in
    let row : Row = c.index_mut.result.now in (
      subst (λ (n : ℕ). AreOrdered 0 (set i.rows.items c.find-at.result (n, c.put.new.words))) (ap (λ (r : Row). r.0) (sym c.index_mut.ensures.value)) (set_ordered c.put.new.words row 0 i.rows.items c.find-at.result c.self.invariant.0),
      c.self.invariant.1,
    )

pub returns-clause-noted : goal.returns-clause-noted
returns-clause-noted g c = λ p.
    let i = c.self.inside in
    let row : Row = c.index_mut.result.now in
    ap (λ (n : ℕ). is_noted (set i.rows.items c.find-at.result (n, c.put.new.words)) p) (ap (λ (r : Row). r.0) c.index_mut.ensures.value)
    ∙ set_noted c.put.new.words row i.rows.items c.find-at.result p
    ∙ ap (λ (h : Holes). is_noted h.rows p) c.self.view_is
    ∙ c.open.ensures.noted p

pub returns-clause-holes : goal.returns-clause-holes
returns-clause-holes g c = λ p k.
    let i = c.self.inside in
    let page : ℕ = c.args.page in
    let at : ℕ = c.find-at.result in
    let row : Row = c.index_mut.result.now in
    let words : List ℕ = c.put.new.words in
    let place : at ≡ rows_before i.rows.items page = c.open.ensures.place ∙ ap (λ (h : Holes). rows_before h.rows page) (sym c.self.view_is) in
    let noted : is_noted i.rows.items page ≡ true = ap (λ (h : Holes). is_noted h.rows page) c.self.view_is ∙ c.open.ensures.noted page ∙ opened (is_noted c.args.self.now.rows page) page in
    ap (λ (n : ℕ). is_hole (set i.rows.items at (n, words)) p k) (ap (λ (r : Row). r.0) c.index_mut.ensures.value)
    ∙ set_hole words row 0 i.rows.items at page p k c.self.invariant.0 (noted_within i.rows.items page at place noted) (sym (noted_is row 0 i.rows.items page at c.self.invariant.0 place noted))
    ∙ dug (p == page) (is_between c.args.start (c.args.start + c.args.count) k) (is_hole i.rows.items p k) (is_set words k) (is_set row.1 k) (c.put.ensures k)
    (λ same. ap (λ (r : Row). is_set r.1 k) c.index_mut.ensures.value ∙ sym (hole_at row 0 i.rows.items page at k c.self.invariant.0 place noted) ∙ ap (λ (q : ℕ). is_hole i.rows.items q k) (sym (is_page p page same)))
    ∙ ap (λ (h : Holes). is_hole h.rows p k || ((p == page) && is_between c.args.start (c.args.start + c.args.count) k)) c.self.view_is
    ∙ ap (λ b. b || ((p == page) && is_between c.args.start (c.args.start + c.args.count) k)) (c.open.ensures.holes p k)

pub open-requires-clause-room : goal.open-requires-clause-room
open-requires-clause-room g c = c.requires.room c.find-at.ensures.ordered
