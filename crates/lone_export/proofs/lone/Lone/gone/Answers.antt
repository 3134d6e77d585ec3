use Rattle.lone_export.proofs.Kept.{lone-gone}
use Rattle.lone_export.proofs.lone.Lone.gone.Goals as goal

pub invariant_of-self-2 : goal.invariant_of-self-2
invariant_of-self-2 g c = lone-gone _ c.args.session _ c.self.invariant c.in_default.ensures.0 c.in_default.ensures.1
