use Rattle.std.proofs.Common.{arith}
use Rattle.number_sets.proofs.MarksLemmas.{whole_unmarked}
use Rattle.number_sets.proofs.held_zeros.HeldZeros.remove_in.Goals as goal

pub returns-then-end-begin-ge-BITMAP-clause-here : goal.returns-then-end-begin-ge-BITMAP-clause-here
returns-then-end-begin-ge-BITMAP-clause-here g c =
    whole_unmarked c.args.self.now c.remove.new.self.entries c.args.bitmap c.args.first c.args.end (omega arith) (omega arith) c.remove.ensures.updates.1
