use Rattle.nbd_wire.proofs.OneSpelling.{one_head}
use Rattle.nbd_wire.proofs.laws.one_head.Goals as goal

pub returns : goal.returns
returns c = one_head
