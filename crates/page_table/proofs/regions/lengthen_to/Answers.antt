use Rattle.std.proofs.Common.{◌∙◌, ap}
use Rattle.page_table.specs.Table.{Regions, chunk_of}
use Rattle.page_table.proofs.RegionsLemmas.{same_longer}
use Rattle.page_table.proofs.regions.lengthen_to.Goals as goal

pub loop-alloc-preserved : goal.loop-alloc-preserved
loop-alloc-preserved g c = λ q.
    ap (λ (all : Regions). chunk_of all q) c.in-Ok-push.ensures.items ∙ same_longer c.loop-alloc.regions.items c.new.result 256 q c.new.ensures ∙ c.loop-alloc.invariant q
