use Rattle.std.proofs.Common.{◌≡◌, subst}
use Rattle.std.specs.Prelude.{OnErr}
use Rattle.std.specs.Io.KnownBytes.{Appends}
use Rattle.nbd_wire.specs.Grammar.{reply_head_text}
use Rattle.nbd_stream.specs.Streams.{WritesPart}
use Rattle.nbd_stream.proofs.TextPartLemmas.{part_before, part_behind, on_err}
use Rattle.nbd_stream.proofs.replies.put_reply.Goals as goal

pub returns-in-Err-clause-part : goal.returns-in-Err-clause-part
returns-in-Err-clause-part g c =
    let u = g.O.Write.contents c.args.writer.now.inner in
    let v = g.O.Write.contents c.put.new.writer.inner in
    let head : c.write_reply_head.result ≡ reply_head_text c.args.reply.now.error c.args.reply.now.cookie = (cc) in
    part_before u v (reply_head_text c.args.reply.now.error c.args.reply.now.cookie) c.args.reply.now.content (subst (WritesPart u v) head c.in-Err.ensures.err)

pub returns-in-Ok-clause-part : goal.returns-in-Ok-clause-part
returns-in-Ok-clause-part g c =
    let u = g.O.Write.contents c.args.writer.now.inner in
    let v = g.O.Write.contents c.put.new.writer.inner in
    let w = g.O.Write.contents c.put_payload.new.writer.inner in
    let head : c.write_reply_head.result ≡ reply_head_text c.args.reply.now.error c.args.reply.now.cookie = (cc) in
    let rest : c.content.result.now ≡ c.args.reply.now.content = (cc) in
    on_err c.put_payload.result (part_behind u v w (reply_head_text c.args.reply.now.error c.args.reply.now.cookie) c.args.reply.now.content (subst (Appends u v) head c.in-Ok.ensures.ok)) (subst (λ t. OnErr c.put_payload.result (WritesPart v w t)) rest c.put_payload.ensures.err)
