use Rattle.std.proofs.Common.{rules}
use Rattle.nbd_scripts.specs.declared.head.Head.TheVariants as heads
use Rattle.nbd_scripts.specs.declared.events.Lines.TheVariants as bodies
use Rattle.nbd_scripts.specs.Heads.{IsHead}
use Rattle.nbd_scripts.specs.Head.{HasHead}
use Rattle.nbd_scripts.specs.Lines.{lines_in}
use Rattle.nbd_scripts.specs.Events.{Asks}
use Rattle.nbd_scripts.specs.Bodies.{IsBody}
use Rattle.nbd_scripts.specs.Scripts.{Streams, HasBody}
use Rattle.nbd_scripts.proofs.ScriptLemmas.{replay_head_refused, replay_read, replay_body_refused}
use Rattle.nbd_scripts.proofs.replaying.replay_script.Goals as goal

pub returns-in-Read-read_lines-clause-told : goal.returns-in-Read-read_lines-clause-told
returns-in-Read-read_lines-clause-told g c =
    let A = g.row.A.Denot in
    let streams : Streams = record {
      unread = g.R.Read.remaining c.args.input.now.inner;
      left = g.R.Read.remaining c.read_whole.new.input.inner;
      old = g.W.Write.contents c.args.output.now.inner;
      new = g.W.Write.contents c.replay.new.output.inner;
    } in
    let offer = c.in-Read.config in
    let above = c.in-Read.body.above in
    let body = c.in-Read.body.text.now in
    let head : HasHead c.in-Ok.script.items offer above body = search rules in
    let read : HasBody streams offer above body = record { script = c.in-Ok.script.items; whole = c.in-Ok.ensures.whole; head = head } in
    let asked = c.in-Read-read_lines.lines.items in
    let asks : Asks {A = A} (lines_in body) asked = search rules in
    let told = c.replay.ensures in
    replay_read streams offer above body read A asked asks c.replay.result told.done told.failed told.no_memory told.write_failed

pub returns-in-Read-clause-told : goal.returns-in-Read-clause-told
returns-in-Read-clause-told g c =
    let A = g.row.A.Denot in
    let streams : Streams = record {
      unread = g.R.Read.remaining c.args.input.now.inner;
      left = g.R.Read.remaining c.read_whole.new.input.inner;
      old = g.W.Write.contents c.args.output.now.inner;
      new = g.W.Write.contents c.refuse_line.new.output.inner;
    } in
    let offer = c.in-Read.config in
    let above = c.in-Read.body.above in
    let body = c.in-Read.body.text.now in
    let head : HasHead c.in-Ok.script.items offer above body = search rules in
    let number = c.in-Refused-read_lines.line in
    let fault = c.in-Refused-read_lines.fault in
    let is : IsBody {A = A} above body (bodies.Refused number fault) = search rules in
    replay_body_refused streams offer above body (record { script = c.in-Ok.script.items; whole = c.in-Ok.ensures.whole; head = head }) A
    c.refuse_line.result number fault is c.refuse_line.ensures.told

pub returns-clause-told : goal.returns-clause-told
returns-clause-told g c =
    let A = g.row.A.Denot in
    let streams : Streams = record {
      unread = g.R.Read.remaining c.args.input.now.inner;
      left = g.R.Read.remaining c.read_whole.new.input.inner;
      old = g.W.Write.contents c.args.output.now.inner;
      new = g.W.Write.contents c.refuse_line-in-Refused.new.output.inner;
    } in
    let number = c.in-Refused.line in
    let fault = c.in-Refused.fault in
    let is : IsHead {A = A} c.in-Ok.script.items (heads.Refused number fault) = search rules in
    replay_head_refused streams c.refuse_line-in-Refused.result A c.in-Ok.script.items c.in-Ok.ensures.whole number fault is c.refuse_line-in-Refused.ensures.told
