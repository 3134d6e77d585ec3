use Rattle.lone_export.proofs.Steps.{steps}
use Rattle.lone_export.proofs.laws.steps_to_come.Goals as goal

pub returns : goal.returns
returns g c = steps
