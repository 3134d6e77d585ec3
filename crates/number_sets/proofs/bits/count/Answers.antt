use Rattle.std.proofs.Common.{◌*◌, ◌+◌, ◌<◌, ◌^◌, ℕ, get_or, refl, sym, arith}
use Rattle.number_sets.specs.Bits.{is_set}
use Rattle.number_sets.proofs.CountLemmas.{count-zero, count_le}
use Rattle.number_sets.proofs.BitsLemmas.{ones_few, count_next}
use Rattle.number_sets.proofs.bits.count.Goals as goal

pub overflow_add-count : goal.overflow_add-count
overflow_add-count c =
    let i : ℕ = c.loop-word.word-index in
    let words = c.args.words.now in
    let below : get_or words i 0 < 2 ^ 64 = omega (arith, c.type_inv.words i) in
    omega (arith, ones_few 64 (get_or words i 0) below, c.loop-word.invariant, count_le (is_set words) 0 (64 * i), c.requires, c.loop-word-test.true)

pub loop-word-init : goal.loop-word-init
loop-word-init c = sym (count-zero (is_set c.args.words.now) 0)

pub loop-word-preserved : goal.loop-word-preserved
loop-word-preserved c =
    let i : ℕ = c.loop-word.word-index in
    let words = c.args.words.now in
    let below : get_or words i 0 < 2 ^ 64 = omega (arith, c.type_inv.words i) in
    count_next words i (get_or words i 0) c.loop-word.count (64 * i) 64 (64 * (i + 1)) refl refl (omega arith) refl below c.loop-word.invariant
