use Rattle.nbd_session.proofs.OneConversation.{one_talk, more_talk}
use Rattle.nbd_session.proofs.SomeConversation.{some_talk}
use Rattle.nbd_session.proofs.laws.one_conversation.Goals as goal

pub returns-clause-one : goal.returns-clause-one
returns-clause-one c = one_talk

pub returns-clause-some : goal.returns-clause-some
returns-clause-some c = some_talk

pub returns-clause-begins : goal.returns-clause-begins
returns-clause-begins c = more_talk
