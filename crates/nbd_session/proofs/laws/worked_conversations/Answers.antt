use Rattle.nbd_session.proofs.Worked.{written, chosen, zeros, unknown_flag, silent, unnamed, past_end, cut_head, cut_payload, other_magic, too_long}
use Rattle.nbd_session.proofs.laws.worked_conversations.Goals as goal

pub returns-clause-written : goal.returns-clause-written
returns-clause-written c = written

pub returns-clause-chosen : goal.returns-clause-chosen
returns-clause-chosen c = chosen

pub returns-clause-zeros : goal.returns-clause-zeros
returns-clause-zeros c = zeros

pub returns-clause-unknown_flag : goal.returns-clause-unknown_flag
returns-clause-unknown_flag c = unknown_flag

pub returns-clause-silent : goal.returns-clause-silent
returns-clause-silent c = silent

pub returns-clause-unnamed : goal.returns-clause-unnamed
returns-clause-unnamed c = unnamed

pub returns-clause-past_end : goal.returns-clause-past_end
returns-clause-past_end c = past_end

pub returns-clause-cut_head : goal.returns-clause-cut_head
returns-clause-cut_head c = cut_head

pub returns-clause-cut_payload : goal.returns-clause-cut_payload
returns-clause-cut_payload c = cut_payload

pub returns-clause-other_magic : goal.returns-clause-other_magic
returns-clause-other_magic c = other_magic

pub returns-clause-too_long : goal.returns-clause-too_long
returns-clause-too_long c = too_long
