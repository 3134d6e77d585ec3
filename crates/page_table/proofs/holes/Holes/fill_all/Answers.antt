use Rattle.std.proofs.Common.{◌≡◌, ◌∙◌, ◌≤◌, ◌&&◌, ◌++◌, ℕ, not, take, drop, sym, ap, subst, arith}
use Rattle.number_sets.specs.Bits.{is_between}
use Rattle.page_table.specs.Holes.{Holes, is_hole, is_noted, rows_before, AreOrdered}
use Rattle.page_table.proofs.HolesLemmas.{Rows, before_upto, range_ordered, range_noted, range_hole}
use Rattle.page_table.proofs.holes.Holes.fill_all.Goals as goal

pub drain-requires-clause-start_le_end : goal.drain-requires-clause-start_le_end
drain-requires-clause-start_le_end g c =
    omega (arith, c.find-from.ensures.place, c.find-to.ensures.place, before_upto c.args.self.now.rows c.args.first c.args.end c.requires)

pub invariant_of-self : goal.invariant_of-self
invariant_of-self g c =
    let i = c.self.inside in
    let from : ℕ = c.find-from.result in
    let to : ℕ = c.find-to.result in
    let is : c.drop-drain.new.self.0.items ≡ take from i.rows.items ++ drop to i.rows.items = c.drop-drain.ensures.items ∙ c.drain.ensures.kept in
    let upto : from ≤ to = omega (arith, c.find-from.ensures.place, c.find-to.ensures.place, before_upto c.args.self.now.rows c.args.first c.args.end c.requires) in (
      subst (λ (rows : Rows). AreOrdered 0 rows) (sym is) (range_ordered c.args.first c.args.end c.requires 0 i.rows.items from to c.self.invariant.0 upto),
      omega (arith, c.drop-drain.ensures.capacity, c.drain.ensures.capacity, c.self.invariant.1),
    )

pub returns-clause-noted : goal.returns-clause-noted
returns-clause-noted g c = λ p.
    let i = c.self.inside in
    ap (λ (rows : Rows). is_noted rows p) (c.drop-drain.ensures.items ∙ c.drain.ensures.kept)
    ∙ range_noted c.args.first c.args.end c.requires 0 i.rows.items c.find-from.result c.find-to.result p c.self.invariant.0
    (c.find-from.ensures.place ∙ ap (λ (h : Holes). rows_before h.rows c.args.first) (sym c.self.view_is)) (c.find-to.ensures.place ∙ ap (λ (h : Holes). rows_before h.rows c.args.end) (sym c.self.view_is))
    ∙ ap (λ (h : Holes). is_noted h.rows p && not (is_between c.args.first c.args.end p)) c.self.view_is

pub returns-clause-holes : goal.returns-clause-holes
returns-clause-holes g c = λ p k.
    let i = c.self.inside in
    ap (λ (rows : Rows). is_hole rows p k) (c.drop-drain.ensures.items ∙ c.drain.ensures.kept)
    ∙ range_hole c.args.first c.args.end c.requires 0 i.rows.items c.find-from.result c.find-to.result p k c.self.invariant.0
    (c.find-from.ensures.place ∙ ap (λ (h : Holes). rows_before h.rows c.args.first) (sym c.self.view_is)) (c.find-to.ensures.place ∙ ap (λ (h : Holes). rows_before h.rows c.args.end) (sym c.self.view_is))
    ∙ ap (λ (h : Holes). is_hole h.rows p k && not (is_between c.args.first c.args.end p)) c.self.view_is
