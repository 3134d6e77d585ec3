use Rattle.page_table.proofs.ChunksLemmas.{none_in_chunks, none_taken}
use Rattle.page_table.proofs.chunks.Chunks.new.Goals as goal

pub invariant_of-result : goal.invariant_of-result
invariant_of-result g c = none_taken c.new-chunks.result c.new-chunks.ensures

pub returns : goal.returns
returns g c = none_in_chunks c.new-chunks.result c.new-chunks.ensures
