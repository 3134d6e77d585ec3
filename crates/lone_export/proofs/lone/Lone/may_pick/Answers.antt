use Rattle.lone_export.proofs.Kept.{may_pick_is}
use Rattle.lone_export.proofs.lone.Lone.may_pick.Goals as goal

pub returns : goal.returns
returns g c = may_pick_is _ _ c.may_pick.result c.self.invariant c.self.view_is c.may_pick.ensures
