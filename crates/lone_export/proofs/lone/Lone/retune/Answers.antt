use Rattle.lone_export.proofs.Retunes.{lone-retune, retune_refused, retune_does, not_worn_then}
use Rattle.lone_export.proofs.lone.Lone.retune.Goals as goal

pub invariant_of-self : goal.invariant_of-self
invariant_of-self g c = lone-retune _ _ _ _ c.self.invariant (not_worn_then _ _ c.self.invariant c.self.view_is c.in_default.ensures) c.l_interval.ensures.value c.l_interval.ensures.range c.retune.ensures

pub returns-clause-step : goal.returns-clause-step
returns-clause-step g c = retune_does _ _ c.args.rates _ _ _ c.self.invariant c.self.view_is c.in_default.ensures c.tuning-tuning.ensures c.retune.ensures

pub returns-in-Err-clause-step : goal.returns-in-Err-clause-step
returns-in-Err-clause-step g c = retune_refused _ c.args.rates c.in-Err.refusal c.in-Err.ensures
