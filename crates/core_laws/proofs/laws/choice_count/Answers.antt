use Rattle.core_laws.proofs.Bounded.{nothing_before, bounded_by_limit, bounded_by_reservation}
use Rattle.core_laws.proofs.laws.choice_count.Goals as goal

pub returns-clause-none : goal.returns-clause-none
returns-clause-none g c = nothing_before

pub returns-clause-limit : goal.returns-clause-limit
returns-clause-limit g c = bounded_by_limit

pub returns-clause-reservation : goal.returns-clause-reservation
returns-clause-reservation g c = bounded_by_reservation
