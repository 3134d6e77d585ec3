use Rattle.std.proofs.Common.{◌≡◌, ◌<◌, ◌^◌, ◌∙◌, ap, sym, subst, arith}
use Rattle.reply_box.specs.Sessions.{sessions_worth}
use Rattle.reply_box.specs.Box.{Box}
use Rattle.reply_box.specs.Seats.{seats_worth}
use Rattle.reply_box.proofs.Worth.{worth_kept, worth_fits}
use Rattle.reply_box.proofs.ReplyBox.steps_to_come.Goals as goal

pub loop-seat-init : goal.loop-seat-init
loop-seat-init g c =
    let i = c.self.inside in
    let items = c.values-seat-items.ensures in
    let kept = worth_kept i.next i.window i.seats c.self.invariant items.ordered ∙ ap (λ (b : Box). sessions_worth b.sessions) c.self.view_is in
    let all : seats_worth c.into_iter-seat-iterator.result ≡ sessions_worth c.args.self.now.sessions =
    ap seats_worth (c.into_iter-seat-iterator.ensures.into_iter_gives ∙ items.rest) ∙ kept in
    let small = subst (λ (b : Box). b.window < 2 ^ 32) (sym c.self.view_is) c.requires in
    let fits = worth_fits i.next i.window i.seats c.self.invariant items.ordered small in
    (omega arith, omega arith)
