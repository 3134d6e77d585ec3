use Rattle.nbd_wire.proofs.OptionPlaces.{one_option_head}
use Rattle.nbd_wire.proofs.laws.one_option_head.Goals as goal

pub returns : goal.returns
returns c = one_option_head
