use Rattle.std.proofs.Common.{rules, ◌≡◌, [], refl, subst}
use Rattle.std.proofs.lemmas.Result.{err_from_is_err_and}
use Rattle.nbd_wire.specs.Grammar.{reply_text}
use Rattle.nbd_stream.specs.Streams.{WritesPart}
use Rattle.nbd_stream.proofs.BufferLemmas.{Appends-none}
use Rattle.nbd_session.proofs.transmission.say.Goals as goal

pub returns-in_err-write_reply-clause-part : goal.returns-in_err-write_reply-clause-part
returns-in_err-write_reply-clause-part g c =
    let p = err_from_is_err_and c.from_residual.result c.from_residual.ensures.1 in
    rw (p.1) ([], reply_text c.args.reply, refl, Appends-none (g.W.Write.contents c.args.writer.now.inner))

pub returns-in_err-put-clause-part : goal.returns-in_err-put-clause-part
returns-in_err-put-clause-part g c =
    let u = g.W.Write.contents c.args.writer.now.inner in
    let v = g.W.Write.contents c.put.new.writer.inner in
    let p = err_from_is_err_and c.from_residual-in_err-put.result c.from_residual-in_err-put.ensures.1 in
    let text : c.deref.result.now ≡ reply_text c.args.reply = search rules in
    rw (p.1) (subst (WritesPart u v) text c.in_err-put.ensures.err)
