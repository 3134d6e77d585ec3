use Rattle.std.proofs.Common.{◌%◌, ◌/◌, ◌*◌, ℕ, length, take, get_or, nat_eq, arith}
use Rattle.std.specs.Int.{bit_at}
use Rattle.std.proofs.lemmas.List.{length-take-le}
use Rattle.number_sets.specs.Bits.{is_set}
use Rattle.number_sets.proofs.CountLemmas.{count_le}
use Rattle.number_sets.proofs.BitsLemmas.{count_parts}
use Rattle.number_sets.proofs.bits.count_below.Goals as goal

pub overflow_add-result : goal.overflow_add-result
overflow_add-result c =
    let i : ℕ = c.args.number / 64 in
    let words = c.args.words.now in
    omega (
      arith,
      c.requires.few,
      c.requires.within,
      c.count.ensures,
      c.count_in.ensures,
      length-take-le i words (omega (arith, c.requires.within)),
      count_le (is_set (take i words)) 0 (64 * length (take i words)),
      count_le (λ k. nat_eq (bit_at (get_or words i 0) k) 1) 0 (c.args.number % 64),
    )

pub returns : goal.returns
returns c =
    count_parts c.args.words.now (c.args.number / 64) (c.args.number % 64) c.args.number c.count.result c.count_in.result (omega arith) (omega arith) (omega (arith, c.requires.within))
    c.count.ensures c.count_in.ensures
