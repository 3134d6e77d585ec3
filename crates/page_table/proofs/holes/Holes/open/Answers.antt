use Rattle.std.proofs.Common.{◌≡◌, ◌∙◌, ◌≤◌, ◌||◌, ◌==◌, false, length, sym, ap, subst, arith}
use Rattle.page_table.specs.Holes.{Holes, is_hole, is_noted, rows_before, AreOrdered}
use Rattle.number_sets.proofs.BitsLemmas.{zeros_set}
use Rattle.page_table.proofs.HolesLemmas.{Rows, before_within, insert_ordered, insert_noted, insert_hole, before_inserted}
use Rattle.page_table.proofs.holes.Holes.open.Goals as goal

pub insert-requires : goal.insert-requires
insert-requires g c =
    let i = c.self.inside in
    omega (arith, c.requires.place, ap (λ (h : Holes). rows_before h.rows c.args.page) c.self.view_is, before_within i.rows.items c.args.page, i.rows.ok.0)

pub invariant_of-self : goal.invariant_of-self
invariant_of-self g c =
    let i = c.self.inside in
    let place : c.args.at ≡ rows_before i.rows.items c.args.page = c.requires.place ∙ ap (λ (h : Holes). rows_before h.rows c.args.page) (sym c.self.view_is) in
    let none : is_noted i.rows.items c.args.page ≡ false = ap (λ (h : Holes). is_noted h.rows c.args.page) c.self.view_is ∙ sym c.has.ensures ∙ c.if-has.false in (
      subst (λ (rows : Rows). AreOrdered 0 rows) (sym c.in-Ok.ensures.items) (insert_ordered c.args.page _ 0 i.rows.items c.args.at c.self.invariant.0 (omega arith) (omega arith) none place),
      omega (arith, c.in-Ok.ensures.capacity, c.self.invariant.1),
    )

pub returns-clause-place : goal.returns-clause-place
returns-clause-place g c =
    let i = c.self.inside in
    let place : c.args.at ≡ rows_before i.rows.items c.args.page = c.requires.place ∙ ap (λ (h : Holes). rows_before h.rows c.args.page) (sym c.self.view_is) in
    sym (ap (λ (rows : Rows). rows_before rows c.args.page) c.in-Ok.ensures.items ∙ before_inserted c.args.page _ i.rows.items c.args.at place)

pub returns-clause-noted : goal.returns-clause-noted
returns-clause-noted g c = λ p.
    let i = c.self.inside in
    let within : c.args.at ≤ length i.rows.items = omega (arith, c.requires.place, ap (λ (h : Holes). rows_before h.rows c.args.page) c.self.view_is, before_within i.rows.items c.args.page) in
    ap (λ (rows : Rows). is_noted rows p) c.in-Ok.ensures.items
    ∙ insert_noted c.args.page _ i.rows.items c.args.at p within
    ∙ ap (λ (h : Holes). is_noted h.rows p || (p == c.args.page)) c.self.view_is

pub returns-clause-holes : goal.returns-clause-holes
returns-clause-holes g c = λ p k.
    let i = c.self.inside in
    let within : c.args.at ≤ length i.rows.items = omega (arith, c.requires.place, ap (λ (h : Holes). rows_before h.rows c.args.page) c.self.view_is, before_within i.rows.items c.args.page) in
    ap (λ (rows : Rows). is_hole rows p k) c.in-Ok.ensures.items
    ∙ insert_hole c.args.page _ i.rows.items c.args.at p k within (zeros_set 64 k)
    ∙ ap (λ (h : Holes). is_hole h.rows p k) c.self.view_is
