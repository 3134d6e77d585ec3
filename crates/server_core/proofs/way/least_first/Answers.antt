use Rattle.std.proofs.Common.{◌≤◌, length, ◌∙◌, ap, List, rules}
use Rattle.std.proofs.lemmas.List.{take_all}
use Rattle.server_table.specs.Ways.{least_first_p}
use Rattle.server_core.specs.Members.{Standing}
use Rattle.server_core.specs.Served.{parts}
use Rattle.server_core.proofs.Ways.{least_first_more}
use Rattle.server_core.proofs.way.least_first.Goals as goal

pub loop-i-preserved : goal.loop-i-preserved
loop-i-preserved g c =
    least_first_more c.args.members.now c.loop-i.i c.index-members-i.result c.loop-i.best c.sooner-best.result c.first.result c.loop-i-test.true c.index-members-i.is c.loop-i.invariant c.first.ensures c.sooner-best.ensures

pub returns : goal.returns
returns g c =
    let n : length c.args.members.now ≤ c.loop-i.i = search rules in
    c.loop-i.invariant ∙ ap (λ (l : List Standing). least_first_p (parts l)) (take_all c.loop-i.i c.args.members.now n)
