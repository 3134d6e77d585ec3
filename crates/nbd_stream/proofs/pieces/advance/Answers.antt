use Rattle.std.proofs.Common.{◌≡◌, [], Option, Some, Err, rules, sym, subst}
use Rattle.nbd_wire.specs.declared.fault.FeedFault.{FeedFault}
use Rattle.nbd_stream.specs.declared.ending.Ending.{Ending}
use Rattle.nbd_stream.specs.Frames.{Advances, IsBehindReady}
use Rattle.nbd_stream.proofs.FrameLemmas.{ready_given, fault_told, request_read}
use Rattle.nbd_stream.proofs.pieces.advance.Goals as goal

-- src/pieces.rt:33:9
pub returns-in-Some-clause-advanced : goal.returns-in-Some-clause-advanced
returns-in-Some-clause-advanced g c =
    ready_given (g.R.Read.remaining c.args.reader.now.inner) c.args.reader.now.failures c.args.ready.now.items c.pop.new.self.items c.in-Some.request c.args.intake.now.held c.in-Some.ensures.items c.requires.framing.each

-- src/pieces.rt:36:9
pub returns-in-Some-fault-clause-advanced : goal.returns-in-Some-fault-clause-advanced
returns-in-Some-fault-clause-advanced g c =
    let left = g.R.Read.remaining c.args.reader.now.inner in
    let n = c.args.reader.now.failures in
    let ready = c.args.ready.now.items in
    let rest = c.pop.new.self.items in
    let d = c.args.intake.now in
    let none : ready ≡ [] = search rules in
    let behind : IsBehindReady (Some c.in-Some-fault.known) d = subst (λ (f : Option FeedFault). IsBehindReady f d) c.in-Some-fault.is c.requires.framing.behind in
    subst (λ (e : Ending). Advances left left n n ready d.held rest d.held (Err e)) (sym c.ending_of.ensures) (fault_told left n ready rest d c.in-Some-fault.known none behind)

-- src/pieces.rt:44:9
pub returns-in-Some-pop-clause-advanced : goal.returns-in-Some-pop-clause-advanced
returns-in-Some-pop-clause-advanced g c =
    let none : c.args.ready.now.items ≡ [] = search rules in
    request_read (g.R.Read.remaining c.args.reader.now.inner) (g.R.Read.remaining c.more.new.reader.inner) c.args.reader.now.failures c.more.new.reader.failures c.args.ready.now.items c.more.new.ready.items c.args.intake.now.held c.more.new.intake none
    c.in-Ok.found c.pop-2.new.self.items c.in-Some-pop.request c.in-Ok.ensures.fetched c.in-Some-pop.ensures.items
