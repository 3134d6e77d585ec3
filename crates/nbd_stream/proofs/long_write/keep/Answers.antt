use Rattle.std.proofs.Common.{[], refl, ap, sym, subst, arith}
use Rattle.nbd_wire.specs.Grammar.{request_text, RequestMessage, IsRequest}
use Rattle.nbd_wire.specs.Pieces.{IsBegun}
use Rattle.nbd_stream.proofs.IntakeLemmas.{written, takes_begun, partly_begun, partly_whole}
use Rattle.nbd_stream.proofs.long_write.keep.Goals as goal

pub returns-then-len-head : goal.returns-then-len-head
returns-then-len-head g c =
    let begun = partly_begun (written c.args.head c.args.payload) c.requires.partly (omega (arith, c.if-len-head.true, c.len.ensures)) in
    let is = sym c.new.ensures in
    record {
      taken = takes_begun [] _ c.new.result c.args.ready.now.items refl (ap (λ (m : RequestMessage). request_text m) is) (subst (λ (m : RequestMessage). IsBegun m) is begun) c.requires.none;
    }

pub new-requires-in-Ok : goal.new-requires-in-Ok
new-requires-in-Ok g c =
    partly_whole c.args.head c.args.payload c.in-Ok.payload c.requires.partly (omega (arith, c.if-len-head.false, c.len.ensures)) c.in-Ok.ensures

pub give-requires-clause-fits : goal.give-requires-clause-fits
give-requires-clause-fits g c =
    subst (λ (m : RequestMessage). IsRequest m) (sym c.new-in-Ok.ensures)
    (partly_whole c.args.head c.args.payload c.in-Ok.payload c.requires.partly (omega (arith, c.if-len-head.false, c.len.ensures)) c.in-Ok.ensures)
