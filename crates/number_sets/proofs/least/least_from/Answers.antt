use Rattle.std.proofs.Common.{◌<◌, rules}
use Rattle.number_sets.proofs.LeastLemmas.{none_before}
use Rattle.number_sets.proofs.least.least_from.Goals as goal

pub returns-in-Some-clause-first : goal.returns-in-Some-clause-first
returns-in-Some-clause-first g c =
    let below : c.in-Some.number.now < c.args.end = search rules in
    none_before c.args.map.now c.range.result c.args.from c.args.end (c.range.ensures.in_range tt) (c.in-Some.number.now, c.in-Some.field-0-1.now) c.next.new.self c.in-Some.ensures.steps below
