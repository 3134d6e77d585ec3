use Rattle.std.proofs.Common.{true, false, Ok, subst}
use Rattle.reply_box.specs.declared.seat.Taken.{Taken}
use Rattle.reply_box.specs.Box.{Takes}
use Rattle.lone_export.proofs.Kept.{lone-take, quiet_is}
use Rattle.lone_export.proofs.lone.Lone.take.Goals as goal

pub invariant_of-self : goal.invariant_of-self
invariant_of-self g c =
    let took = subst (λ (t : Taken g.row.I-Alloc.Denot). Takes c.self.inside.sessions c.args.session c.take.new.self (Ok t)) c.in-Ok-Reply.field-0-is c.in-Ok-Reply.ensures in
    lone-take _ c.args.session _ c.in-Ok-Reply.reply c.self.invariant took.1 took.2

pub returns-in-Ok-Empty-clause-step : goal.returns-in-Ok-Empty-clause-step
returns-in-Ok-Empty-clause-step g c =
    let took = subst (λ (t : Taken g.row.I-Alloc.Denot). Takes c.self.inside.sessions c.args.session c.take.new.self (Ok t)) c.in-Ok-Empty.field-0-is c.in-Ok-Empty.ensures in
    quiet_is _ c.args.session false _ _ c.self.invariant c.self.view_is took.0 took.1

pub returns-in-Ok-End-clause-step : goal.returns-in-Ok-End-clause-step
returns-in-Ok-End-clause-step g c =
    let took = subst (λ (t : Taken g.row.I-Alloc.Denot). Takes c.self.inside.sessions c.args.session c.take.new.self (Ok t)) c.in-Ok-End.field-0-is c.in-Ok-End.ensures in
    quiet_is _ c.args.session true _ _ c.self.invariant c.self.view_is took.0 took.1
