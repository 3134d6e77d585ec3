use Rattle.lone_export.proofs.Bounds.{lone_bounds}
use Rattle.lone_export.proofs.lone.Lone.laws.Goals as goal

pub returns : goal.returns
returns g c = lone_bounds _ _ c.self.invariant c.self.view_is c.laws.ensures c.laws-2.ensures
