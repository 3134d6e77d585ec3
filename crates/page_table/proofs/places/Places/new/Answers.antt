use Rattle.std.proofs.Common.{◌∙◌, ◌∷◌, [], length, sym, ap}
use Rattle.number_sets.specs.Bits.{is_set}
use Rattle.page_table.specs.Places.{in_places}
use Rattle.number_sets.proofs.CountLemmas.{count-none}
use Rattle.number_sets.proofs.BitsLemmas.{zeros_set}
use Rattle.page_table.proofs.PlacesLemmas.{empty_places}
use Rattle.page_table.proofs.places.Places.new.Goals as goal

pub invariant_of-result : goal.invariant_of-result
invariant_of-result g c =
    ap length c.new.ensures.items ∙ sym (count-none (is_set (0 ∷ 0 ∷ 0 ∷ 0 ∷ [])) 0 256 (λ k above below. zeros_set 4 k))

pub returns : goal.returns
returns g c = ap (in_places (0 ∷ 0 ∷ 0 ∷ 0 ∷ [])) c.new.ensures.items ∙ empty_places (0 ∷ 0 ∷ 0 ∷ 0 ∷ [])
