use Rattle.std.proofs.lemmas.Nat.{one_shl}
use Rattle.number_sets.proofs.BitsLemmas.{ones_low}
use Rattle.number_sets.proofs.bits.count_in.Goals as goal

pub returns : goal.returns
returns c = ones_low c.args.word c.args.numbers _ (one_shl c.args.numbers 64 c.requires)
