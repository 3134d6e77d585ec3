use Rattle.nbd_wire.proofs.Places.{one_request}
use Rattle.nbd_wire.proofs.laws.one_request.Goals as goal

pub returns : goal.returns
returns c = one_request
