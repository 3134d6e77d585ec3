use Rattle.lone_export.proofs.Kept.{lone-leave}
use Rattle.lone_export.proofs.lone.Lone.leave.Goals as goal

pub invariant_of-self-2 : goal.invariant_of-self-2
invariant_of-self-2 g c = lone-leave _ c.args.session _ c.self.invariant c.in_default.ensures.0 c.in_default.ensures.1
