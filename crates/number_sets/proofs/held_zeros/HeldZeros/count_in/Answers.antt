use Rattle.std.proofs.Common.{◌∙◌, ◌*◌, ℕ, refl, sym, ap}
use Rattle.number_sets.specs.Marks.{is_marked}
use Rattle.number_sets.proofs.CountLemmas.{count_of}
use Rattle.number_sets.proofs.MarksLemmas.{Bitmaps, count_bitmap, count_absent}
use Rattle.number_sets.proofs.held_zeros.HeldZeros.count_in.Goals as goal

pub returns-in-Some-clause-count : goal.returns-in-Some-clause-count
returns-in-Some-clause-count g c =
    let q : ℕ = c.args.bitmap in
    c.count.ensures.count
    ∙ count_bitmap c.self.inside.bitmaps.entries q 16384 (16384 * q) c.in-Some.found.now refl refl c.in-Some.ensures.value
    ∙ ap (λ (all : Bitmaps). count_of (is_marked all) (16384 * q) 16384) c.self.view_is

pub returns-in-None-clause-count : goal.returns-in-None-clause-count
returns-in-None-clause-count g c =
    let q : ℕ = c.args.bitmap in
    sym (count_absent c.self.inside.bitmaps.entries q 16384 (16384 * q) refl refl (sym c.in-None.ensures.value))
    ∙ ap (λ (all : Bitmaps). count_of (is_marked all) (16384 * q) 16384) c.self.view_is
