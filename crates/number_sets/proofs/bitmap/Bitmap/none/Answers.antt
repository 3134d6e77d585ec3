use Rattle.std.proofs.Common.{◌∙◌, ℕ, List, ap}
use Rattle.number_sets.specs.Bits.{is_set}
use Rattle.number_sets.proofs.BitsLemmas.{zeros_set}
use Rattle.number_sets.proofs.bitmap.Bitmap.none.Goals as goal

pub returns : goal.returns
returns g c = λ k. ap (λ (words : List ℕ). is_set words k) (c.in_ok-words.ensures.items_if_clones_equal (λ y same. same)) ∙ zeros_set 256 k
