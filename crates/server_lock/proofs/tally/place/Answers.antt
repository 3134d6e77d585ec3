use Rattle.std.proofs.lemmas.Nat.{and_mask}
use Rattle.server_lock.proofs.tally.place.Goals as goal

-- src/tally.rt:116:1
pub returns-clause-place : goal.returns-clause-place
returns-clause-place c = rw c.requires.1 (and_mask c.args.number c.requires.0)
