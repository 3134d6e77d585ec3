use Rattle.std.proofs.Common.{◌≡◌, ◌∙◌, arith, Some, None, true, length, get_or, set, sym, ap}
use Rattle.number_sets.specs.Bits.{is_set}
use Rattle.page_table.specs.Places.{in_places}
use Rattle.page_table.proofs.PlacesLemmas.{places-length, place_none, place_some, place_below, place_removed, marks_removed, set_none}
use Rattle.page_table.proofs.places.Places.take.Goals as goal

pub returns-then-not-has-clause-before : goal.returns-then-not-has-clause-before
returns-then-not-has-clause-before g c =
    let i = c.self.inside in
    sym (place_none i.marks i.items.items c.args.place c.requires (sym c.has.ensures ∙ c.if-not-has.true))
    ∙ ap (λ all. get_or all c.args.place None) c.self.view_is

pub returns-then-not-has-clause-after : goal.returns-then-not-has-clause-after
returns-then-not-has-clause-after g c =
    let i = c.self.inside in
    sym (set_none c.args.self.now c.args.place (ap (λ all. get_or all c.args.place None) (sym c.self.view_is)
    ∙ place_none i.marks i.items.items c.args.place c.requires (sym c.has.ensures ∙ c.if-not-has.true)))

pub returns-then-not-has-clause-long : goal.returns-then-not-has-clause-long
returns-then-not-has-clause-long g c = ap length (sym c.self.view_is) ∙ places-length c.self.inside.marks c.self.inside.items.items

pub remove-taken-requires : goal.remove-taken-requires
remove-taken-requires g c =
    let i = c.self.inside in
    omega (arith, place_below i.marks c.args.place _ _ c.requires (sym c.has.ensures ∙ c.if-not-has.false) c.self.invariant c.count_below-at.ensures, i.items.ok.0)

pub invariant_of-self : goal.invariant_of-self
invariant_of-self g c =
    let i = c.self.inside in
    let there : is_set i.marks c.args.place ≡ true = sym c.has.ensures ∙ c.if-not-has.false in
    marks_removed i.marks c.put_one.new.words c.args.place _ _ c.requires there c.put_one.ensures.here c.put_one.ensures.others c.self.invariant
    (omega (arith, ap length c.give_room_back.ensures, c.remove-taken.ensures.len, i.items.ok.0, c.remove-taken.new.self.ok.0))

pub returns-clause-before : goal.returns-clause-before
returns-clause-before g c =
    let i = c.self.inside in
    let there : is_set i.marks c.args.place ≡ true = sym c.has.ensures ∙ c.if-not-has.false in
    ap (λ item. Some item) c.remove-taken.ensures.value
    ∙ sym (place_some i.marks i.items.items c.args.place c.count_below-at.result c.remove-taken.result c.requires there c.self.invariant c.count_below-at.ensures)
    ∙ ap (λ all. get_or all c.args.place None) c.self.view_is

pub returns-clause-after : goal.returns-clause-after
returns-clause-after g c =
    let i = c.self.inside in
    let there : is_set i.marks c.args.place ≡ true = sym c.has.ensures ∙ c.if-not-has.false in
    ap (in_places c.put_one.new.words) (c.give_room_back.ensures ∙ c.remove-taken.ensures.items)
    ∙ place_removed i.marks c.put_one.new.words i.items.items c.args.place c.count_below-at.result c.requires there c.put_one.ensures.here c.put_one.ensures.others c.self.invariant c.count_below-at.ensures
    ∙ ap (λ all. set all c.args.place None) c.self.view_is

pub returns-clause-long : goal.returns-clause-long
returns-clause-long g c = ap length (sym c.self.view_is) ∙ places-length c.self.inside.marks c.self.inside.items.items
