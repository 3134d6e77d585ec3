use Rattle.std.proofs.Common.{◌∙◌}
use Rattle.lone_export.proofs.Done.{slot_is}
use Rattle.lone_export.proofs.lone.Lone.slot_of.Goals as goal

pub returns : goal.returns
returns g c = c.slot_of.ensures ∙ slot_is _ c.args.number _ c.self.invariant c.self.view_is
