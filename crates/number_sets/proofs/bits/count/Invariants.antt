use Rattle.std.proofs.Common.{◌≡◌, ◌*◌}
use Rattle.number_sets.specs.Bits.{is_set}
use Rattle.number_sets.proofs.CountLemmas.{count_of}
use Rattle.number_sets.proofs.bits.count.Given as goal

abbrev pub invariant-loop-word : goal.invariant-loop-word
invariant-loop-word l = l.count ≡ count_of (is_set l.words) 0 (64 * l.word-index)
