use Rattle.std.proofs.Common.{◌≡◌, ◌∙◌, ◌/◌, ◌%◌, ◌<◌, ℕ, Some, None, refl, sym, ap, arith}
use Rattle.page_table.specs.Table.{Chunk, Regions, chunk_of, in_chunk, in_chunks}
use Rattle.page_table.proofs.RegionsLemmas.{ok_so, err_so}
use Rattle.page_table.proofs.ChunksLemmas.{table_is, other_places, taken_found, taken_after, taken_added, added_here, added_gone, added_others, added_taken}
use Rattle.page_table.proofs.chunks.Chunks.add.Goals as goal

pub add_page-requires-clause-none : goal.add_page-requires-clause-none
add_page-requires-clause-none g c =
    let n : ℕ = c.args.number in
    sym (table_is c.self.inside.chunks n (n / 256) refl) ∙ ap (λ (all : Regions). in_chunks all n) c.self.view_is ∙ c.requires.none

pub invariant_of-self : goal.invariant_of-self
invariant_of-self g c =
    let n : ℕ = c.args.number in
    let q : ℕ = n / 256 in
    let old : Regions = c.self.inside.chunks in
    let new : Regions = c.add_page.new.self in
    let chunk : Chunk = c.in-Some.field-0.now in
    let found : Some chunk ≡ chunk_of old q = sym c.in-Some.ensures.some in
    let was : in_chunk (chunk_of old q) (n % 256) ≡ None =
    sym (table_is old n q refl) ∙ ap (λ (all : Regions). in_chunks all n) c.self.view_is ∙ c.requires.none in
    taken_after old new q c.add_page.ensures.others c.self.invariant
    (taken_added c.add_page.result (chunk_of old q) (chunk_of new q) (n % 256) was c.add_page.ensures.no_memory c.add_page.ensures.places
    chunk c.args.page c.add_page.ensures.here found (taken_found old q chunk c.self.invariant found))

pub returns-in-Some-clause-here : goal.returns-in-Some-clause-here
returns-in-Some-clause-here g c =
    let n : ℕ = c.args.number in
    let new : Regions = c.add_page.new.self in
    ok_so c.add_page.result (in_chunk (chunk_of new (n / 256)) (n % 256) ≡ Some c.args.page) (in_chunks new n ≡ Some c.args.page)
    (λ is. table_is new n (n / 256) refl ∙ is) c.add_page.ensures.here

pub returns-in-Some-clause-others : goal.returns-in-Some-clause-others
returns-in-Some-clause-others g c = λ k apart.
    let n : ℕ = c.args.number in
    other_places c.self.inside.chunks c.add_page.new.self (n / 256) c.add_page.ensures.others n refl c.add_page.ensures.places k apart
    ∙ ap (λ (all : Regions). in_chunks all k) c.self.view_is

pub returns-in-Some-clause-no_memory : goal.returns-in-Some-clause-no_memory
returns-in-Some-clause-no_memory g c =
    let n : ℕ = c.args.number in
    let new : Regions = c.add_page.new.self in
    err_so c.add_page.result (in_chunk (chunk_of new (n / 256)) (n % 256) ≡ None) (in_chunks new n ≡ None)
    (λ is. table_is new n (n / 256) refl ∙ is) c.add_page.ensures.no_memory

pub invariant_of-self-in-None : goal.invariant_of-self-in-None
invariant_of-self-in-None g c =
    let q : ℕ = c.args.number / 256 in
    let place : ℕ = c.args.number % 256 in
    let below : place < 256 = omega arith in
    let old : Regions = c.self.inside.chunks in
    let new : Regions = c.add.new.self in
    taken_after old new q c.add.ensures.others c.self.invariant
    (added_taken c.add.result (chunk_of old q) (chunk_of new q) c.holding.result 256 place c.args.page below c.holding.ensures (c.in-None.ensures.none refl)
    c.add.ensures.here c.add.ensures.no_memory)

pub returns-in-None-clause-here : goal.returns-in-None-clause-here
returns-in-None-clause-here g c =
    let n : ℕ = c.args.number in
    let q : ℕ = n / 256 in
    let place : ℕ = n % 256 in
    let below : place < 256 = omega arith in
    let old : Regions = c.self.inside.chunks in
    let new : Regions = c.add.new.self in
    ok_so c.add.result (in_chunk (chunk_of new q) place ≡ Some c.args.page) (in_chunks new n ≡ Some c.args.page) (λ is. table_is new n q refl ∙ is)
    (added_here c.add.result (chunk_of old q) (chunk_of new q) c.holding.result 256 place c.args.page below c.holding.ensures (c.in-None.ensures.none refl)
    c.add.ensures.here c.add.ensures.no_memory)

pub returns-in-None-clause-others : goal.returns-in-None-clause-others
returns-in-None-clause-others g c = λ k apart.
    let n : ℕ = c.args.number in
    let q : ℕ = n / 256 in
    let place : ℕ = n % 256 in
    let below : place < 256 = omega arith in
    let old : Regions = c.self.inside.chunks in
    let new : Regions = c.add.new.self in
    other_places old new q c.add.ensures.others n refl
    (added_others c.add.result (chunk_of old q) (chunk_of new q) c.holding.result 256 place c.args.page below c.holding.ensures (c.in-None.ensures.none refl)
    c.add.ensures.here c.add.ensures.no_memory) k apart
    ∙ ap (λ (all : Regions). in_chunks all k) c.self.view_is

pub returns-in-None-clause-no_memory : goal.returns-in-None-clause-no_memory
returns-in-None-clause-no_memory g c =
    let n : ℕ = c.args.number in
    let q : ℕ = n / 256 in
    let place : ℕ = n % 256 in
    let below : place < 256 = omega arith in
    let old : Regions = c.self.inside.chunks in
    let new : Regions = c.add.new.self in
    err_so c.add.result (in_chunk (chunk_of new q) place ≡ None) (in_chunks new n ≡ None) (λ is. table_is new n q refl ∙ is)
    (added_gone c.add.result (chunk_of old q) (chunk_of new q) c.holding.result 256 place c.args.page below c.holding.ensures (c.in-None.ensures.none refl)
    c.add.ensures.here c.add.ensures.no_memory)
