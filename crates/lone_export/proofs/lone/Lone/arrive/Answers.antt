use Rattle.lone_export.proofs.Asked.{arrive_refused}
use Rattle.lone_export.proofs.lone.Lone.arrive.Goals as goal

pub returns-in-Err-clause-step : goal.returns-in-Err-clause-step
returns-in-Err-clause-step g c = arrive_refused _ c.args.session _ _ c.in-Err.refusal c.in-Err.ensures
