use Rattle.std.proofs.Common.{◌∙◌, ◌/◌, ◌%◌, ℕ, length, refl, ap}
use Rattle.page_table.specs.Table.{Regions, chunk_of, in_chunk, in_chunks, is_kept, put_from}
use Rattle.page_table.proofs.ChunksLemmas.{taken_there, taken_after}
use Rattle.page_table.proofs.RunLemmas.{some_in, put_first, run_in_chunk}
use Rattle.page_table.proofs.chunks.Chunks.exchange_in.Goals as goal

pub exchange_pages-requires-clause-there : goal.exchange_pages-requires-clause-there
exchange_pages-requires-clause-there g c = λ k inside.
    some_in c.self.inside.chunks c.args.first (length c.args.pages.now) c.requires.within
    (λ n is. ap (λ (all : Regions). is_kept all n) c.self.view_is ∙ c.requires.stored n is) k inside

pub invariant_of-self : goal.invariant_of-self
invariant_of-self g c =
    let n : ℕ = c.args.first in
    let old : Regions = c.self.inside.chunks in
    let new : Regions = c.exchange_pages.new.self in
    taken_after old new (n / 256) c.exchange_pages.ensures.others c.self.invariant
    (taken_there (chunk_of new (n / 256)) (n % 256) _
    (c.exchange_pages.ensures.here (n % 256) ∙ put_first (n % 256) c.args.pages.now (in_chunk (chunk_of old (n / 256))) c.requires.some))

pub returns-clause-here : goal.returns-clause-here
returns-clause-here g c = λ k.
    run_in_chunk c.self.inside.chunks c.exchange_pages.new.self (c.args.first / 256) c.args.first c.args.pages.now refl c.requires.within c.exchange_pages.ensures.others c.exchange_pages.ensures.here k
    ∙ ap (λ (all : Regions). put_from c.args.first c.args.pages.now (in_chunks all) k) c.self.view_is
