use Rattle.number_sets.proofs.MarksLemmas.{none_marked}
use Rattle.number_sets.proofs.held_zeros.HeldZeros.none.Goals as goal

pub returns : goal.returns
returns g c = none_marked _ c.new-bitmaps.ensures.empty
