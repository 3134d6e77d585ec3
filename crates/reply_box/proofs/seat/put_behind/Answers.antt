use Rattle.std.proofs.Common.{sym, ap, ◌∙◌}
use Rattle.circular_buffer.specs.Buffer.{buffer}
use Rattle.reply_box.proofs.Seats.{only_kept}
use Rattle.reply_box.proofs.seat.put_behind.Goals as goal

pub returns-then-is_empty : goal.returns-then-is_empty
returns-then-is_empty g c =
    let old = c.args.outbox.now in
    c.push_front.ensures.items ∙ ap (λ items. buffer items old.capacity) (only_kept old.capacity old.items c.args.reply (sym c.is_empty.ensures ∙ c.if-is_empty.true))
