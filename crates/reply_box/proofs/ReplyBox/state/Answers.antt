use Rattle.std.proofs.Common.{Some, ap, sym, ◌∙◌}
use Rattle.reply_box.specs.Sessions.{state_at}
use Rattle.reply_box.specs.Box.{Box}
use Rattle.reply_box.proofs.Seats.{state_seen, gone_seen, state_past}
use Rattle.reply_box.proofs.ReplyBox.state.Goals as goal

pub returns-then-session-self : goal.returns-then-session-self
returns-then-session-self g c =
    let i = c.self.inside in
    sym (state_past i.next c.args.session i.seats c.if-session-self.true) ∙ ap (λ (b : Box). state_at b.sessions c.args.session) c.self.view_is

pub returns-in_default : goal.returns-in_default
returns-in_default g c =
    let i = c.self.inside in
    sym (gone_seen i.next i.window c.args.session i.seats c.self.invariant (sym c.in_default.ensures.value) c.if-session-self.false) ∙ ap (λ (b : Box). state_at b.sessions c.args.session) c.self.view_is

pub returns : goal.returns
returns g c =
    let i = c.self.inside in
    ap (λ s. Some s) c.state.ensures
    ∙ sym (state_seen i.next i.window c.args.session i.seats c.self.invariant c.in-Some.seat.now (sym c.in-Some.ensures.value))
    ∙ ap (λ (b : Box). state_at b.sessions c.args.session) c.self.view_is
