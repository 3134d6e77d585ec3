use Rattle.std.proofs.Common.{ap, sym, ◌∙◌}
use Rattle.reply_box.specs.Sessions.{is_open_at}
use Rattle.reply_box.specs.Box.{Box}
use Rattle.reply_box.proofs.Seats.{open_absent, open_seen}
use Rattle.reply_box.proofs.ReplyBox.is_open.Goals as goal

pub returns-in_default : goal.returns-in_default
returns-in_default g c =
    let i = c.self.inside in
    sym (open_absent i.next i.window c.args.session i.seats c.self.invariant (sym c.in_default.ensures.value)) ∙ ap (λ (b : Box). is_open_at b.sessions c.args.session) c.self.view_is

pub returns : goal.returns
returns g c =
    let i = c.self.inside in
    sym (open_seen i.next i.window c.args.session i.seats c.self.invariant c.in-Some.seat.now (sym c.in-Some.ensures.value)) ∙ ap (λ (b : Box). is_open_at b.sessions c.args.session) c.self.view_is
