use Rattle.nbd_session.proofs.HaggledLemmas.{handshake_is_haggled}
use Rattle.nbd_session.proofs.laws.handshake_is_haggled.Goals as goal

pub returns : goal.returns
returns g c table = handshake_is_haggled g.T.Attach.may table
