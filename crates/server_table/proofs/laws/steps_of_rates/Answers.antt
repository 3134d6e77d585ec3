use Rattle.server_table.proofs.Retunes.{step_retune}
use Rattle.server_table.proofs.laws.steps_of_rates.Goals as goal

pub returns : goal.returns
returns g c = step_retune
