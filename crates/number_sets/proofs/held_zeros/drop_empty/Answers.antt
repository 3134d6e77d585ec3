use Rattle.std.proofs.Common.{◌∙◌, sym}
use Rattle.number_sets.proofs.MarksLemmas.{dropped}
use Rattle.number_sets.proofs.held_zeros.drop_empty.Goals as goal

pub returns-clause-same : goal.returns-clause-same
returns-clause-same g c = dropped c.args.bitmaps.now c.remove.new.self c.args.number c.in-Some.bitmap.now c.in-Some.ensures.value (sym c.any.ensures ∙ c.if-any.false) c.remove.ensures.updates
