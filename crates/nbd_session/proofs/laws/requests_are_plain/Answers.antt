use Rattle.nbd_session.proofs.Turns.{plain, plain_service}
use Rattle.nbd_session.proofs.laws.requests_are_plain.Goals as goal

pub returns-clause-requests : goal.returns-clause-requests
returns-clause-requests c = plain

pub returns-clause-service : goal.returns-clause-service
returns-clause-service c = plain_service
