use Rattle.std.proofs.Common.{◌≡◌, ◌∙◌, arith, Some, None, false, length, get_or, set, sym, ap}
use Rattle.std.proofs.lemmas.List.Edits.{length-insert}
use Rattle.number_sets.specs.Bits.{is_set}
use Rattle.page_table.specs.Places.{in_places}
use Rattle.page_table.proofs.PlacesLemmas.{places-length, place_absent, place_added, place_upto, marks_added}
use Rattle.page_table.proofs.places.Places.add.Goals as goal

pub insert-requires : goal.insert-requires
insert-requires g c =
    let i = c.self.inside in
    omega (arith, place_upto i.marks c.args.place _ _ c.requires.place c.self.invariant c.count_below-at.ensures, i.items.ok.0)

pub invariant_of-self-2 : goal.invariant_of-self-2
invariant_of-self-2 g c =
    let i = c.self.inside in
    let absent : is_set i.marks c.args.place ≡ false = place_absent i.marks i.items.items c.args.place c.requires.place c.self.invariant (ap (λ all. get_or all c.args.place None) c.self.view_is ∙ c.requires.none) in
    ap length c.in_default.ensures.items
    ∙ length-insert i.items.items c.count_below-at.result c.args.item (place_upto i.marks c.args.place _ _ c.requires.place c.self.invariant c.count_below-at.ensures)
    ∙ marks_added i.marks c.put_one.new.words c.args.place _ c.requires.place absent c.put_one.ensures.here c.put_one.ensures.others c.self.invariant

pub returns-clause-added : goal.returns-clause-added
returns-clause-added g c =
    let i = c.self.inside in
    let absent : is_set i.marks c.args.place ≡ false = place_absent i.marks i.items.items c.args.place c.requires.place c.self.invariant (ap (λ all. get_or all c.args.place None) c.self.view_is ∙ c.requires.none) in
    ap (in_places c.put_one.new.words) c.in_default.ensures.items
    ∙ place_added i.marks c.put_one.new.words i.items.items c.args.place c.count_below-at.result c.args.item c.requires.place absent c.put_one.ensures.here c.put_one.ensures.others c.self.invariant c.count_below-at.ensures
    ∙ ap (λ all. set all c.args.place (Some c.args.item)) c.self.view_is

pub returns-clause-long : goal.returns-clause-long
returns-clause-long g c = ap length (sym c.self.view_is) ∙ places-length c.self.inside.marks c.self.inside.items.items

pub returns-in-Err-clause-long : goal.returns-in-Err-clause-long
returns-in-Err-clause-long g c = ap length (sym c.self.view_is) ∙ places-length c.self.inside.marks c.self.inside.items.items
