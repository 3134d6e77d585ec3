use Rattle.nbd_session.proofs.ServingLemmas.{opens}
use Rattle.nbd_session.proofs.serving.open.Goals as goal

pub returns-in-Ok : goal.returns-in-Ok
returns-in-Ok g c = opens g.row.I-Alloc.Denot c.args.lone.now c.attach.new.self c.in-Ok.field-0 c.requires c.in-Ok.ensures.step c.attach.ensures.slots
