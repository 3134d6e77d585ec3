use Rattle.std.proofs.Common.{subst}
use Rattle.reply_box.specs.Box.{Box, IsInBounds}
use Rattle.reply_box.proofs.Seats.{IsBox-bounds}
use Rattle.reply_box.proofs.ReplyBox.laws.Goals as goal

pub returns : goal.returns
returns g c = let i = c.self.inside in subst (λ (b : Box). IsInBounds b) c.self.view_is (IsBox-bounds i.next i.window i.seats c.self.invariant)
