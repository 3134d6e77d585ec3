use Rattle.std.proofs.Common.{IsSome, refl, subst}
use Rattle.number_sets.proofs.MarksLemmas.{put_here}
use Rattle.number_sets.proofs.held_zeros.put_in.Goals as goal

pub returns-clause-here : goal.returns-clause-here
returns-clause-here g c =
    let after = c.put.new.self in
    let found = c.in-Some.ensures.value in
    let updates = (c.get_mut.follows.holds after).3 (subst IsSome found refl) in
    put_here c.args.bitmaps.now (c.get_mut.follows.lender after) c.args.bitmap c.args.first c.args.end c.saturating_sub.result c.min-upto.result c.args.member c.in-Some.found.now after
    c.saturating_sub.ensures c.min-upto.ensures found updates c.put.ensures
