use Rattle.std.proofs.Common.{◌-◌, vec_len}
use Rattle.std.specs.Vec.{vec_capacity}
use Rattle.session_turns.proofs.TakingLemmas.{HasTaken}
use Rattle.session_turns.proofs.taking.take_replies.Given as goal

abbrev pub invariant-loop-session : goal.invariant-loop-session
invariant-loop-session g l = HasTaken g.row.I-Alloc.Denot l.fn.booked l.fn.pass l.session l.fn.replies.items (vec_capacity l.fn.replies) l.replies.items (vec_capacity l.replies) l.booked l.pass

abbrev pub decreases-loop-session : goal.decreases-loop-session
decreases-loop-session g l = vec_capacity l.replies - vec_len l.replies
