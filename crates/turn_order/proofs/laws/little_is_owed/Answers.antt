use Rattle.turn_order.proofs.Owed.{owed_little, owing_little}
use Rattle.turn_order.proofs.laws.little_is_owed.Goals as goal

pub returns-clause-owed : goal.returns-clause-owed
returns-clause-owed c = owed_little

pub returns-clause-owing : goal.returns-clause-owing
returns-clause-owing c = owing_little
