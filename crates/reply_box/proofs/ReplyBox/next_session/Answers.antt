use Rattle.std.proofs.Common.{length, ap, sym, ◌∙◌}
use Rattle.std.specs.Ordering.{nat_cmp}
use Rattle.std.specs.BTreeMap.{get}
use Rattle.reply_box.specs.Box.{Box}
use Rattle.reply_box.specs.Seats.{session_of}
use Rattle.reply_box.proofs.Below.{length-each_below}
use Rattle.reply_box.proofs.ReplyBox.next_session.Goals as goal

pub returns : goal.returns
returns g c =
    let i = c.self.inside in
    sym (length-each_below (λ n. session_of (get nat_cmp i.seats n)) i.next) ∙ ap (λ (b : Box). length b.sessions) c.self.view_is
