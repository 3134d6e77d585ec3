use Rattle.std.proofs.Common.{◌≡◌, ◌≢◌, ◌∙◌, ℕ, None, if◌then◌else◌, ap, arith}
use Rattle.number_sets.specs.Bits.{is_between}
use Rattle.page_table.specs.Table.{Regions, chunk_of, in_chunks}
use Rattle.page_table.proofs.ChunksLemmas.{whole_gone, places_gone, places_all_gone}
use Rattle.page_table.proofs.chunks.Chunks.remove_part.Goals as goal

pub returns-then-upto-eq-CHUNK-clause-here : goal.returns-then-upto-eq-CHUNK-clause-here
returns-then-upto-eq-CHUNK-clause-here g c =
    let q : ℕ = c.args.chunk in
    let others : (p : ℕ) → p ≢ q → chunk_of c.remove_chunk.new.chunks p ≡ chunk_of c.args.self.now p =
    λ p apart. c.remove_chunk.ensures.others p apart ∙ ap (λ (all : Regions). chunk_of all p) c.self.view_is in
    whole_gone c.args.self.now c.remove_chunk.new.chunks q c.args.first c.args.end others (omega arith) (omega arith) c.remove_chunk.ensures.here

pub returns-then-left-eq0-clause-here : goal.returns-then-left-eq0-clause-here
returns-then-left-eq0-clause-here g c = λ k is.
    let q : ℕ = c.args.chunk in
    let places = c.remove_pages-left.ensures in
    places_all_gone c.self.inside.chunks c.remove_pages-left.new.self c.remove_chunk-then-left-eq0.new.chunks q c.args.first c.args.end
    c.saturating_sub-from.result c.min-upto.result c.remove_pages-left.result
    c.saturating_sub-from.ensures c.min-upto.ensures places.others places.here places.left c.if-left-eq0.true c.remove_chunk-then-left-eq0.ensures.here k is
    ∙ ap (λ (all : Regions). if is_between c.args.first c.args.end k then None else in_chunks all k) c.self.view_is

pub returns-else-left-eq0-clause-here : goal.returns-else-left-eq0-clause-here
returns-else-left-eq0-clause-here g c = λ k is.
    let q : ℕ = c.args.chunk in
    let places = c.remove_pages-left.ensures in
    places_gone c.self.inside.chunks c.remove_pages-left.new.self q c.args.first c.args.end places.others c.saturating_sub-from.result c.min-upto.result
    c.saturating_sub-from.ensures c.min-upto.ensures places.here k is
    ∙ ap (λ (all : Regions). if is_between c.args.first c.args.end k then None else in_chunks all k) c.self.view_is
