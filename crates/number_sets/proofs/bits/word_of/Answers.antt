use Rattle.std.proofs.Common.{◌∙◌, sym}
use Rattle.number_sets.proofs.BitsLemmas.{all_bits}
use Rattle.number_sets.proofs.bits.word_of.Goals as goal

pub returns-then-member : goal.returns-then-member
returns-then-member c = λ k below. all_bits k below ∙ sym c.if-member.true
