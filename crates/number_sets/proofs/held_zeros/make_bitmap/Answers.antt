use Rattle.std.proofs.Common.{◌∙◌, sym}
use Rattle.number_sets.proofs.MarksLemmas.{made, none_there}
use Rattle.number_sets.proofs.held_zeros.make_bitmap.Goals as goal

pub returns-clause-same : goal.returns-clause-same
returns-clause-same g c =
    made c.args.bitmaps.now c.insert.new.self c.args.number c.in_ok-made.made (none_there _ (sym c.contains_key.ensures ∙ c.if-contains_key.false)) c.in_ok-made.ensures c.in_ok-insert.ensures.updates
