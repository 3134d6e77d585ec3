use Rattle.std.proofs.Common.{◌∙◌, ◌%◌, ℕ, nat_eq, ap, arith}
use Rattle.std.specs.Int.{bit_at}
use Rattle.number_sets.proofs.BitsLemmas.{bit_test}
use Rattle.number_sets.proofs.bits.has.Goals as goal

pub returns-in-Some : goal.returns-in-Some
returns-in-Some c =
    let word = c.in-Some.word.now in
    bit_test word (c.args.number % 64) (omega arith) ∙ ap (λ (w : ℕ). nat_eq (bit_at w (c.args.number % 64)) 1) (c.in-Some.ensures.lookup.4 (omega arith) 0)
