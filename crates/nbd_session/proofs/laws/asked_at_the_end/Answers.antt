use Rattle.nbd_session.proofs.AskedLast.{asked_at_the_end}
use Rattle.nbd_session.proofs.laws.asked_at_the_end.Goals as goal

pub returns : goal.returns
returns g c table = asked_at_the_end g.T.Attach.may table
