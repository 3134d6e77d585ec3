use Rattle.nbd_measures.proofs.HoldLemmas.{longest_at-count_of}
use Rattle.nbd_measures.proofs.laws.last_second.Goals as goal

pub returns : goal.returns
returns c = longest_at-count_of
