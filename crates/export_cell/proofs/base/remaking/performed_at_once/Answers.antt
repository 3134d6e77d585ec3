use Rattle.std.proofs.Common.{◌≡◌, ◌<◌, refl, sym, subst}
use Rattle.nbd_wire.specs.Grammar.{RequestMessage}
use Rattle.lone_export.specs.Lone.{Whole, IsIdleFor}
use Rattle.export_cell.specs.declared.deferred.Arrival.{Arrival}
use Rattle.export_cell.specs.declared.deferred.Deferred.TheVariants as deferred
use Rattle.export_cell.specs.Past.{Stays}
use Rattle.export_cell.proofs.base.remaking.performed_at_once.Goals as goal

-- the request came back, and nothing was done
stays_picked : {A : Type 0} (old new : Whole) (a : Arrival A) (request : RequestMessage) → request ≡ a.request → new ≡ old → IsIdleFor old.terms old.state a.session a.request → 0 < old.inflight
    → Stays old (deferred.Picked a) new (deferred.Picked (record { session = a.session; moment = a.moment; request = request }))
stays_picked old new a request back same idle room =
    subst (λ (w : Whole). Stays old (deferred.Picked a) w (deferred.Picked (record { session = a.session; moment = a.moment; request = request }))) (sym same)
    (subst (λ (q : RequestMessage). Stays old (deferred.Picked a) old (deferred.Picked (record { session = a.session; moment = a.moment; request = q }))) (sym back)
    (record { same = refl; past = (idle, room) }))

pub returns-in-Err-clause-err : goal.returns-in-Err-clause-err
returns-in-Err-clause-err g c = stays_picked c.args.lone.now c.serve.new.self c.args.arrival c.in-Err.request c.in-Err.ensures.err.0 c.in-Err.ensures.err.1 c.requires.idle c.requires.room
