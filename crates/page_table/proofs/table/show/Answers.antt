use Rattle.std.proofs.Common.{arith}
use Rattle.number_sets.specs.Bits.{is_set}
use Rattle.page_table.proofs.ShownLemmas.{shown_all}
use Rattle.page_table.proofs.table.show.Goals as goal

pub returns : goal.returns
returns c =
    let after = c.loop-number.invariant in
    shown_all (is_set c.args.holes.now) c.args.bytes c.loop-number.bytes c.loop-number.number after.long (omega (arith, after.long, c.loop-number-test.false)) after.so
