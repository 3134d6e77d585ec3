use Rattle.nbd_wire.proofs.OptionPlaces.{one_option}
use Rattle.nbd_wire.proofs.laws.one_option.Goals as goal

pub returns : goal.returns
returns c = one_option
