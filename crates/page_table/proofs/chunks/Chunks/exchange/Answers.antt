use Rattle.std.proofs.Common.{◌∙◌, ◌/◌, ◌%◌, ℕ, Option, is_some, refl, sym, ap}
use Rattle.page_table.specs.Table.{Chunk, Regions, chunk_of, in_chunk, in_chunks, is_kept}
use Rattle.page_table.proofs.ChunksLemmas.{table_is, taken_there, taken_same, taken_after, other_places, some_of}
use Rattle.page_table.proofs.chunks.Chunks.exchange.Goals as goal

pub invariant_of-self : goal.invariant_of-self
invariant_of-self g c = taken_same c.self.inside.chunks c.exchange_page-exchanged.new.self c.in-Err.ensures.same c.self.invariant

pub returns-in-Err-clause-stored : goal.returns-in-Err-clause-stored
returns-in-Err-clause-stored g c =
    let n : ℕ = c.args.number in
    sym (ap (λ (all : Regions). is_kept all n) (sym c.self.view_is) ∙ ap is_some (table_is c.self.inside.chunks n (n / 256) refl ∙ c.in-Err.ensures.none))

pub returns-in-Err-clause-others : goal.returns-in-Err-clause-others
returns-in-Err-clause-others g c = λ k apart.
    let n : ℕ = c.args.number in
    other_places c.self.inside.chunks c.exchange_page-exchanged.new.self (n / 256) c.exchange_page-exchanged.ensures.others n refl c.exchange_page-exchanged.ensures.places k apart
    ∙ ap (λ (all : Regions). in_chunks all k) c.self.view_is

pub returns-in-Err-clause-absent : goal.returns-in-Err-clause-absent
returns-in-Err-clause-absent g c =
    let n : ℕ = c.args.number in
    table_is c.exchange_page-exchanged.new.self n (n / 256) refl ∙ ap (λ (chunk : Option Chunk). in_chunk chunk (n % 256)) (c.in-Err.ensures.same (n / 256)) ∙ c.in-Err.ensures.none

pub invariant_of-self-2 : goal.invariant_of-self-2
invariant_of-self-2 g c =
    let n : ℕ = c.args.number in
    let new : Regions = c.exchange_page-exchanged.new.self in
    taken_after c.self.inside.chunks new (n / 256) c.exchange_page-exchanged.ensures.others c.self.invariant
    (taken_there (chunk_of new (n / 256)) (n % 256) c.args.page c.in-Ok.ensures.here)

pub returns-clause-stored : goal.returns-clause-stored
returns-clause-stored g c =
    let n : ℕ = c.args.number in
    some_of (in_chunks c.args.self.now n) c.in-Ok.before
    (ap (λ (all : Regions). in_chunks all n) (sym c.self.view_is) ∙ table_is c.self.inside.chunks n (n / 256) refl ∙ c.in-Ok.ensures.before)

pub returns-clause-here : goal.returns-clause-here
returns-clause-here g c =
    let n : ℕ = c.args.number in
    table_is c.exchange_page-exchanged.new.self n (n / 256) refl ∙ c.in-Ok.ensures.here

pub returns-clause-others : goal.returns-clause-others
returns-clause-others g c = λ k apart.
    let n : ℕ = c.args.number in
    other_places c.self.inside.chunks c.exchange_page-exchanged.new.self (n / 256) c.exchange_page-exchanged.ensures.others n refl c.exchange_page-exchanged.ensures.places k apart
    ∙ ap (λ (all : Regions). in_chunks all k) c.self.view_is
