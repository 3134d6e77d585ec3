use Rattle.std.proofs.Common.{◌∙◌, ◌/◌, sym, refl, ap}
use Rattle.number_sets.specs.Marks.{is_marked}
use Rattle.number_sets.proofs.MarksLemmas.{Bitmaps, found_marked, absent_marked}
use Rattle.number_sets.proofs.held_zeros.HeldZeros.has.Goals as goal

pub returns-in-Some : goal.returns-in-Some
returns-in-Some g c =
    let n = c.args.number in
    c.has.ensures ∙ found_marked c.self.inside.bitmaps.entries n (n / 16384) c.in-Some.bitmap.now refl c.in-Some.ensures.value ∙ ap (λ (all : Bitmaps). is_marked all n) c.self.view_is

pub returns-in-None : goal.returns-in-None
returns-in-None g c =
    let n = c.args.number in
    sym (absent_marked c.self.inside.bitmaps.entries n (n / 16384) refl (sym c.in-None.ensures.value)) ∙ ap (λ (all : Bitmaps). is_marked all n) c.self.view_is
