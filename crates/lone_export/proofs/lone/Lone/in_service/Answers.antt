use Rattle.std.proofs.Common.{◌∙◌}
use Rattle.lone_export.proofs.Kept.{out_len}
use Rattle.lone_export.proofs.lone.Lone.in_service.Goals as goal

pub returns : goal.returns
returns g c = c.in_service.ensures ∙ out_len _ _ c.self.invariant c.self.view_is
