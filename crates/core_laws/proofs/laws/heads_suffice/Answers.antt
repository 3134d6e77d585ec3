use Rattle.core_laws.proofs.Heads.{heads_are_enough}
use Rattle.core_laws.proofs.laws.heads_suffice.Goals as goal

pub returns : goal.returns
returns g c = λ run table now is. rw is (heads_are_enough run now)
