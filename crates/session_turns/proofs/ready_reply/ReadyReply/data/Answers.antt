use Rattle.std.proofs.Common.{◌≡◌, length, ap, arith}
use Rattle.std.proofs.lemmas.List.{length-append}
use Rattle.nbd_wire.specs.Grammar.{reply_text, reply_head_text}
use Rattle.nbd_wire.proofs.ReplyPlaces.{length-reply_head_text}
use Rattle.session_turns.specs.Outgoing.{ready_text}
use Rattle.session_turns.proofs.ready_reply.ReadyReply.data.Goals as goal

pub returns-in-Whole : goal.returns-in-Whole
returns-in-Whole g c =
    let r = c.in-Whole.reply in
    let is : ready_text c.args.self.now ≡ reply_text r = ap ready_text c.in-Whole.is in
    omega (arith, ap length is, c.len-in-Whole.ensures, ap length c.content.ensures, length-append (reply_head_text r.error r.cookie) r.content, length-reply_head_text r.error r.cookie)
