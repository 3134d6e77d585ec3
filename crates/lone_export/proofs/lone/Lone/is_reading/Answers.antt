use Rattle.std.proofs.Common.{nat_eq, ap, ◌∙◌}
use Rattle.nbd_wire.specs.declared.requests.RequestHead.{RequestHead}
use Rattle.lone_export.proofs.Skip.{reading_of, not_reading}
use Rattle.lone_export.proofs.lone.Lone.is_reading.Goals as goal

pub returns-in_default : goal.returns-in_default
returns-in_default g c = not_reading _ _ c.args.number _ c.self.invariant c.self.view_is c.in_default.ensures

pub returns : goal.returns
returns g c = ap (λ (h : RequestHead). nat_eq h.kind 0) c.head.ensures.value ∙ reading_of _ _ c.in-Some.slot c.args.number c.in-Some-held.row.now _ c.self.invariant c.self.view_is c.in-Some-held.ensures
