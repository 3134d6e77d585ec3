use Rattle.nbd_base.proofs.Least.{least-append}
use Rattle.nbd_base.proofs.laws.least_of_two.Goals as goal

pub returns-clause-lists : goal.returns-clause-lists
returns-clause-lists g c = least-append
