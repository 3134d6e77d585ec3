use Rattle.std.proofs.Common.{sym, ◌∙◌, ap, List}
use Rattle.std.proofs.lemmas.Int.{to_z-of_z}
use Rattle.eligibility.specs.Choice.{all_shifted}
use Rattle.server_table.specs.Order.{heads}
use Rattle.server_core.specs.Members.{Standing}
use Rattle.server_core.specs.Served.{parts}
use Rattle.server_core.proofs.Ways.{falls_in_range, slots_shifted}
use Rattle.server_core.proofs.way.fall.Goals as goal

pub shift-requires-clause-in_range : goal.shift-requires-clause-in_range
shift-requires-clause-in_range g c =
    let fits = c.ranges.delta in
    rw to_z-of_z (falls_in_range c.args.delta (g.E.Eligibility.contents c.args.eligible.now) c.args.members.now c.requires.slots c.requires.after)

pub returns-clause-slots : goal.returns-clause-slots
returns-clause-slots g c =
    let fits = c.ranges.delta in
    (rw to_z-of_z at c.shift.ensures.contents) ∙ ap (all_shifted c.args.delta) c.requires.slots ∙ slots_shifted c.args.delta c.args.members.now ∙ ap (λ (l : List Standing). heads (parts l)) (sym (rw to_z-of_z at c.shift_members.ensures))
