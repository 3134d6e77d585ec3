use Rattle.session_turns.proofs.OrderLemmas.{begun, taken, written, ready_written, sent}
use Rattle.session_turns.proofs.laws.replies_in_order.Goals as goal

pub returns-clause-begun : goal.returns-clause-begun
returns-clause-begun c = begun

pub returns-clause-taken : goal.returns-clause-taken
returns-clause-taken c = taken

pub returns-clause-written : goal.returns-clause-written
returns-clause-written c = written

pub returns-clause-ready : goal.returns-clause-ready
returns-clause-ready c = ready_written

pub returns-clause-sent : goal.returns-clause-sent
returns-clause-sent c = sent
