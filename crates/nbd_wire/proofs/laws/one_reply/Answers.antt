use Rattle.nbd_wire.proofs.ReplyPlaces.{one_reply}
use Rattle.nbd_wire.proofs.laws.one_reply.Goals as goal

pub returns : goal.returns
returns c = one_reply
