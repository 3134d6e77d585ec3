use Rattle.std.specs.Vec.{vec_capacity}
use Rattle.session_turns.proofs.TakingLemmas.{takes_more}
use Rattle.session_turns.proofs.taking.take_replies.Goals as goal

pub loop-session-preserved : goal.loop-session-preserved
loop-session-preserved g c =
    let A = g.row.I-Alloc.Denot in
    takes_more A c.args.session c.loop-session.booked c.take_reply.new.booked c.loop-session.pass c.take_reply.new.pass c.args.booked.now c.args.pass.now c.args.replies.now.items c.loop-session.replies.items (vec_capacity c.args.replies.now) (vec_capacity c.loop-session.replies) c.in-Ok.reply c.push_reserved.new.self.items (vec_capacity c.push_reserved.new.self) c.loop-session.invariant c.in-Ok.ensures c.push_reserved.ensures.items c.push_reserved.ensures.capacity
