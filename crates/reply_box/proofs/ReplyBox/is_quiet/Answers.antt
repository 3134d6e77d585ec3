use Rattle.std.proofs.Common.{ap, sym, ◌∙◌}
use Rattle.reply_box.specs.Sessions.{is_quiet_at}
use Rattle.reply_box.specs.Box.{Box}
use Rattle.reply_box.proofs.Seats.{quiet_absent, quiet_seen}
use Rattle.reply_box.proofs.ReplyBox.is_quiet.Goals as goal

pub returns-in_default : goal.returns-in_default
returns-in_default g c =
    let i = c.self.inside in
    sym (quiet_absent i.next i.window c.args.session i.seats c.self.invariant (sym c.in_default.ensures.value)) ∙ ap (λ (b : Box). is_quiet_at b.sessions c.args.session) c.self.view_is

pub returns : goal.returns
returns g c =
    let i = c.self.inside in
    c.is_empty.ensures ∙ sym (quiet_seen i.next i.window c.args.session i.seats c.self.invariant c.in-Some.seat.now (sym c.in-Some.ensures.value)) ∙ ap (λ (b : Box). is_quiet_at b.sessions c.args.session) c.self.view_is
