use Rattle.std.proofs.Common.{ap, sym, ◌∙◌}
use Rattle.reply_box.specs.Box.{Box, owed_at}
use Rattle.reply_box.proofs.Seats.{owed_seen, owed_absent}
use Rattle.reply_box.proofs.ReplyBox.owed.Goals as goal

pub returns-in_default : goal.returns-in_default
returns-in_default g c =
    let i = c.self.inside in
    sym (owed_absent i.next i.window c.args.session i.seats c.self.invariant (sym c.in_default.ensures.value)) ∙ ap (λ (b : Box). owed_at b.owed c.args.session) c.self.view_is

pub returns : goal.returns
returns g c =
    let i = c.self.inside in
    sym (owed_seen i.next i.window c.args.session i.seats c.self.invariant c.in-Some.seat.now (sym c.in-Some.ensures.value)) ∙ ap (λ (b : Box). owed_at b.owed c.args.session) c.self.view_is
