use Rattle.std.proofs.Common.{◌≡◌, ◌+◌, ◌<◌, ◌^◌}
use Rattle.reply_box.specs.Sessions.{sessions_worth}
use Rattle.reply_box.specs.Seats.{seats_worth}
use Rattle.reply_box.proofs.ReplyBox.steps_to_come.Given as goal

-- what was counted, and what can come of the sessions that are left, is all
abbrev pub invariant-loop-seat : goal.invariant-loop-seat
invariant-loop-seat g l = (l.steps + seats_worth l.seat-iterator ≡ sessions_worth l.self.sessions) × (sessions_worth l.self.sessions < 2 ^ 64)
