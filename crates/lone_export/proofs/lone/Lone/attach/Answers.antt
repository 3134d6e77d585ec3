use Rattle.lone_export.proofs.Asked.{lone-attach, few_sessions, not_worn, attach_does, attach_refused, same_whole}
use Rattle.lone_export.proofs.lone.Lone.attach.Goals as goal

pub attach-requires : goal.attach-requires
attach-requires g c = few_sessions _ c.self.invariant

pub invariant_of-self-2 : goal.invariant_of-self-2
invariant_of-self-2 g c = lone-attach _ _ c.self.invariant (not_worn _ _ c.self.invariant c.self.view_is c.in_default.ensures.0) c.in-Ok.ensures.ok.2

pub returns-clause-step : goal.returns-clause-step
returns-clause-step g c = attach_does _ _ _ _ c.self.invariant c.self.view_is c.in_default.ensures c.in-Ok.ensures.ok.1 c.in-Ok.ensures.ok.2

pub returns-in_default-attach-clause-step : goal.returns-in_default-attach-clause-step
returns-in_default-attach-clause-step g c = same_whole _ _ _ c.self.invariant c.self.view_is c.in_default-attach.ensures.err.1

pub returns-in-Err-clause-step : goal.returns-in-Err-clause-step
returns-in-Err-clause-step g c = attach_refused _ c.in-Err.refusal c.in-Err.ensures
