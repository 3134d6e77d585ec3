use Rattle.std.proofs.Common.{◌∙◌, arith, Some, None, length, get_or, set, refl, sym, ap}
use Rattle.page_table.specs.Places.{in_places}
use Rattle.page_table.proofs.PlacesLemmas.{places-length, place_none, place_some, place_set, place_below}
use Rattle.page_table.proofs.places.Places.exchange.Goals as goal

pub index_mut-requires : goal.index_mut-requires
index_mut-requires g c =
    let i = c.self.inside in
    let at = c.in-Some.ensures in
    omega (arith, place_below i.marks c.args.place _ _ c.requires at.there c.self.invariant at.before, i.items.ok.0)

pub returns-in-Some-clause-before : goal.returns-in-Some-clause-before
returns-in-Some-clause-before g c =
    let i = c.self.inside in
    let at = c.in-Some.ensures in
    ap (λ all. get_or all c.args.place None) (sym c.self.view_is)
    ∙ place_some i.marks i.items.items c.args.place c.in-Some.at c.index_mut.result.now c.requires at.there c.self.invariant at.before
    ∙ ap (λ item. Some item) (sym c.index_mut.ensures.value ∙ sym c.replace.ensures.value)

pub returns-in-Some-clause-after : goal.returns-in-Some-clause-after
returns-in-Some-clause-after g c =
    let i = c.self.inside in
    let at = c.in-Some.ensures in
    ap (λ item. in_places i.marks (set i.items.items c.in-Some.at item)) c.replace.ensures.after
    ∙ place_set i.marks i.items.items c.args.place c.in-Some.at c.args.item c.requires at.there c.self.invariant at.before
    ∙ ap (λ all. set all c.args.place (Some c.args.item)) c.self.view_is

pub returns-in-Some-clause-long : goal.returns-in-Some-clause-long
returns-in-Some-clause-long g c = ap length (sym c.self.view_is) ∙ places-length c.self.inside.marks c.self.inside.items.items

pub returns-in-None-clause-none : goal.returns-in-None-clause-none
returns-in-None-clause-none g c =
    let i = c.self.inside in
    ap (λ all. get_or all c.args.place None) (sym c.self.view_is) ∙ place_none i.marks i.items.items c.args.place c.requires (c.in-None.ensures.none refl)

pub returns-in-None-clause-long : goal.returns-in-None-clause-long
returns-in-None-clause-long g c = ap length (sym c.self.view_is) ∙ places-length c.self.inside.marks c.self.inside.items.items
