use Rattle.std.proofs.Common.{◌≡◌, codes, rules}
use Rattle.std.specs.Prelude.{IsErr}
use Rattle.std.specs.Io.KnownBytes.{Appends}
use Rattle.hex.specs.Hex.{decode_of}
use Rattle.nbd_scripts.specs.declared.outcome.Outcome.TheVariants as outcome
use Rattle.nbd_scripts.specs.declared.head.Head.TheVariants as heads
use Rattle.nbd_scripts.specs.Heads.{IsHead}
use Rattle.nbd_scripts.specs.Head.{HasHead}
use Rattle.nbd_scripts.specs.Output.{digits_of, Prints}
use Rattle.nbd_scripts.specs.Scripts.{Streams}
use Rattle.nbd_scripts.proofs.ScriptLemmas.{talk_head_refused, talk_read}
use Rattle.nbd_scripts.proofs.conversation.talk_script.Goals as goal

pub returns-in-Read-clause-told : goal.returns-in-Read-clause-told
returns-in-Read-clause-told g c =
    let old = g.W.Write.contents c.args.output.now.inner in
    let new = g.W.Write.contents c.converse.new.output.inner in
    let streams : Streams = record { unread = g.R.Read.remaining c.args.input.now.inner; left = g.R.Read.remaining c.read_whole.new.input.inner; old = old; new = new } in
    let offer = c.in-Read.config in
    let body = c.in-Read.body.text.now in
    let head : HasHead c.in-Ok.script.items offer c.in-Read.body.above body = search rules in
    let done : c.converse.result ≡ outcome.Done → Prints offer.exports body old new = search rules in
    let refused : c.converse.result ≡ outcome.Refused → IsErr (decode_of (digits_of body)) × Appends old new (codes "hex refused\n") = search rules in
    let told = c.converse.ensures in
    talk_read streams offer c.in-Read.body.above body (record { script = c.in-Ok.script.items; whole = c.in-Ok.ensures.whole; head = head })
    c.converse.result done refused told.read told.no_memory told.write_failed

pub returns-clause-told : goal.returns-clause-told
returns-clause-told g c =
    let streams : Streams = record {
      unread = g.R.Read.remaining c.args.input.now.inner;
      left = g.R.Read.remaining c.read_whole.new.input.inner;
      old = g.W.Write.contents c.args.output.now.inner;
      new = g.W.Write.contents c.refuse_line.new.output.inner;
    } in
    let number = c.in-Refused.line in
    let fault = c.in-Refused.fault in
    let is : IsHead {A = g.row.A.Denot} c.in-Ok.script.items (heads.Refused number fault) = search rules in
    talk_head_refused streams c.refuse_line.result g.row.A.Denot c.in-Ok.script.items c.in-Ok.ensures.whole number fault is c.refuse_line.ensures.told
