use Rattle.std.proofs.Common.{Some, ap, ◌∙◌}
use Rattle.lone_export.proofs.Skip.{head_is, no_head}
use Rattle.lone_export.proofs.lone.Lone.head_of.Goals as goal

pub returns-in_default : goal.returns-in_default
returns-in_default g c = no_head _ _ c.args.number _ c.self.invariant c.self.view_is c.in_default.ensures

pub returns : goal.returns
returns g c = ap Some c.head.ensures.value ∙ head_is _ _ c.in-Some.slot c.args.number c.in-Some-held.row.now _ c.self.invariant c.self.view_is c.in-Some-held.ensures
