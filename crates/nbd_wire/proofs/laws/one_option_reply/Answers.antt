use Rattle.nbd_wire.proofs.ReplyPlaces.{one_option_reply}
use Rattle.nbd_wire.proofs.laws.one_option_reply.Goals as goal

pub returns : goal.returns
returns c = one_option_reply
