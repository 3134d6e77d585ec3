use Rattle.std.proofs.Common.{◌∙◌, arith, Some, None, length, get_or, refl, sym, ap}
use Rattle.page_table.proofs.PlacesLemmas.{places-length, place_none, place_some, place_below}
use Rattle.page_table.proofs.places.Places.get.Goals as goal

pub index-requires : goal.index-requires
index-requires g c =
    let i = c.self.inside in
    let at = c.in-Some.ensures in
    omega (arith, place_below i.marks c.args.place _ _ c.requires at.there c.self.invariant at.before, i.items.ok.0)

pub returns-in-Some-clause-some : goal.returns-in-Some-clause-some
returns-in-Some-clause-some g c =
    let i = c.self.inside in
    let at = c.in-Some.ensures in
    ap (λ all. get_or all c.args.place None) (sym c.self.view_is)
    ∙ place_some i.marks i.items.items c.args.place c.in-Some.at c.index.result.now c.requires at.there c.self.invariant at.before
    ∙ ap (λ item. Some item) (sym c.index.ensures)

pub returns-in-Some-clause-long : goal.returns-in-Some-clause-long
returns-in-Some-clause-long g c = ap length (sym c.self.view_is) ∙ places-length c.self.inside.marks c.self.inside.items.items

pub returns-in-None-clause-none : goal.returns-in-None-clause-none
returns-in-None-clause-none g c = λ none.
    let i = c.self.inside in
    ap (λ all. get_or all c.args.place None) (sym c.self.view_is) ∙ place_none i.marks i.items.items c.args.place c.requires (c.in-None.ensures.none refl)

pub returns-in-None-clause-long : goal.returns-in-None-clause-long
returns-in-None-clause-long g c = ap length (sym c.self.view_is) ∙ places-length c.self.inside.marks c.self.inside.items.items
