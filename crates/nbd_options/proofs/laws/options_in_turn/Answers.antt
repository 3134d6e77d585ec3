use Rattle.nbd_options.proofs.TurnLemmas.{options_in_turn}
use Rattle.nbd_options.proofs.laws.options_in_turn.Goals as goal

pub returns : goal.returns
returns c = options_in_turn
