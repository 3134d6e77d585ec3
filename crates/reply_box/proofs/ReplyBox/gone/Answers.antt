use Rattle.std.proofs.Common.{ap, sym, ◌∙◌}
use Rattle.reply_box.specs.Sessions.{is_here_at}
use Rattle.reply_box.specs.Box.{Box, after_gone}
use Rattle.reply_box.proofs.Seats.{here_absent, here_seen, IsBox-remove, IsBox-absent, absent_view, gone_view}
use Rattle.reply_box.proofs.ReplyBox.gone.Goals as goal

pub invariant_of-self : goal.invariant_of-self
invariant_of-self g c =
    let i = c.self.inside in
    let e = c.in_default.ensures in
    IsBox-absent i.seats c.remove.new.self c.args.session i.next i.window (sym e.value) e.updates c.self.invariant e.len

pub returns-in_default : goal.returns-in_default
returns-in_default g c =
    let i = c.self.inside in
    let e = c.in_default.ensures in (
      ap (λ (b : Box). is_here_at b.sessions c.args.session) (sym c.self.view_is) ∙ here_absent i.next i.window c.args.session i.seats c.self.invariant (sym e.value),
      absent_view i.seats c.remove.new.self c.args.session i.next i.window (sym e.value) e.updates ∙ c.self.view_is,
    )

pub invariant_of-self-2 : goal.invariant_of-self-2
invariant_of-self-2 g c =
    let i = c.self.inside in
    let e = c.in-Some.ensures in
    IsBox-remove i.seats c.remove.new.self c.args.session i.next i.window c.in-Some._seat c.self.invariant (sym e.value) e.updates e.len

pub returns : goal.returns
returns g c =
    let i = c.self.inside in
    let e = c.in-Some.ensures in (
      ap (λ (b : Box). is_here_at b.sessions c.args.session) (sym c.self.view_is) ∙ here_seen i.next i.window c.args.session i.seats c.self.invariant c.in-Some._seat (sym e.value),
      gone_view i.seats c.remove.new.self c.args.session i.next i.window e.updates ∙ ap (λ (b : Box). after_gone b c.args.session) c.self.view_is,
    )
