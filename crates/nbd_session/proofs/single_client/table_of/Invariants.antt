use Rattle.std.proofs.Common.{◌≡◌, take, map}
use Rattle.nbd_session.specs.Conversation.{facts_of}
use Rattle.nbd_session.proofs.single_client.table_of.Given as goal

abbrev pub invariant-loop-export : goal.invariant-loop-export
invariant-loop-export g l = l.table ≡ map facts_of (take l.export-index l.exports)
