use Rattle.lone_export.proofs.Rounds.{passes_all}
use Rattle.lone_export.proofs.lone.Lone.serve_dropped_read.Goals as goal

pub invariant_of-self : goal.invariant_of-self
invariant_of-self g c =
    (passes_all _ c.args.session c.args.moment c.args.request.now _ c.self.invariant c.self.view_is c.requires.idle c.nanoseconds.ensures.below c.head.ensures.fits c.requires.read _ _ c.skip.ensures c.admit.ensures.clock).0

pub returns : goal.returns
returns g c =
    (passes_all _ c.args.session c.args.moment c.args.request.now _ c.self.invariant c.self.view_is c.requires.idle c.nanoseconds.ensures.below c.head.ensures.fits c.requires.read _ _ c.skip.ensures c.admit.ensures.clock).1
