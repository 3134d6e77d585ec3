use Rattle.std.proofs.Common.{true, false, Err, subst, sym, ◌∙◌}
use Rattle.reply_box.specs.declared.fault.AdmitFault.{AdmitFault}
use Rattle.reply_box.specs.Box.{MayAdmit}
use Rattle.lone_export.proofs.Asked.{held_is, open_same}
use Rattle.lone_export.proofs.lone.Lone.may_arrive.Goals as goal

pub returns-in-Ok : goal.returns-in-Ok
returns-in-Ok g c =
    let may = c.in-Ok.ensures in (
      open_same _ c.args.session _ c.self.invariant c.self.view_is may.0,
      sym c.is_worn.ensures ∙ c.if-is_worn.false,
      held_is _ c.args.session false _ c.self.invariant c.self.view_is may.0 may.1,
    )

pub returns-in-Err-Hold : goal.returns-in-Err-Hold
returns-in-Err-Hold g c =
    let may = subst (λ (f : AdmitFault). MayAdmit c.self.inside.sessions c.args.session (Err f)) c.in-Err-Hold.field-0-is c.in-Err-Hold.ensures in (
      open_same _ c.args.session _ c.self.invariant c.self.view_is may.0,
      sym c.is_worn.ensures ∙ c.if-is_worn.false,
      held_is _ c.args.session true _ c.self.invariant c.self.view_is may.0 may.1,
    )
