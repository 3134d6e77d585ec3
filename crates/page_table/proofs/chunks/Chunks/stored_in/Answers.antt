use Rattle.std.proofs.Common.{◌∙◌, ◌*◌, ℕ, refl, sym, ap}
use Rattle.page_table.specs.Table.{Regions, is_kept}
use Rattle.number_sets.proofs.CountLemmas.{count_of}
use Rattle.page_table.proofs.ChunksLemmas.{count_chunk, count_absent}
use Rattle.page_table.proofs.chunks.Chunks.stored_in.Goals as goal

pub returns-in-Some-clause-count : goal.returns-in-Some-clause-count
returns-in-Some-clause-count g c =
    let q : ℕ = c.args.chunk in
    c.count.ensures.count
    ∙ count_chunk c.self.inside.chunks q 256 (256 * q) c.in-Some.found.now refl refl c.count.ensures.long (sym c.in-Some.ensures.some)
    ∙ ap (λ (all : Regions). count_of (is_kept all) (256 * q) 256) c.self.view_is

pub returns-in-None-clause-count : goal.returns-in-None-clause-count
returns-in-None-clause-count g c =
    let q : ℕ = c.args.chunk in
    sym (count_absent c.self.inside.chunks q 256 (256 * q) refl refl (c.in-None.ensures.none refl))
    ∙ ap (λ (all : Regions). count_of (is_kept all) (256 * q) 256) c.self.view_is
