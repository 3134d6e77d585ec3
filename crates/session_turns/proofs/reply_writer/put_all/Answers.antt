use Rattle.std.proofs.Common.{◌≡◌, ◌+◌, ◌++◌, take, drop, sym, ap, subst, ◌∙◌}
use Rattle.std.proofs.lemmas.List.{take-append-drop}
use Rattle.nbd_wire.specs.Grammar.{reply_text}
use Rattle.nbd_stream.specs.Streams.{WritesPart}
use Rattle.nbd_stream.proofs.TextPartLemmas.{part_before, part_behind}
use Rattle.session_turns.specs.Outgoing.{texts_of}
use Rattle.session_turns.proofs.ReplyTexts.{texts-append, texts_more}
use Rattle.session_turns.proofs.reply_writer.put_all.Goals as goal

pub returns-in-Err-clause-part : goal.returns-in-Err-clause-part
returns-in-Err-clause-part g c =
    let t = c.args.replies.now in
    let at = c.loop-at.at in
    let r = c.index-replies-at.result in
    let u = g.W.Write.contents c.args.writer.now.inner in
    let v = g.W.Write.contents c.loop-at.writer.inner in
    let w = g.W.Write.contents c.put_reply.new.writer.inner in
    let some = part_behind u v w (texts_of (take at t)) (reply_text r) c.loop-at.invariant.gave c.in-Err.ensures.part in
    let more = subst (WritesPart u w) (texts_more t at r c.loop-at-test.true c.index-replies-at.is) some in
    let whole : texts_of (take (at + 1) t) ++ texts_of (drop (at + 1) t) ≡ texts_of t = sym (texts-append (take (at + 1) t) (drop (at + 1) t)) ∙ ap texts_of (take-append-drop (at + 1) t) in
    subst (WritesPart u w) whole (part_before u w (texts_of (take (at + 1) t)) (texts_of (drop (at + 1) t)) more)
