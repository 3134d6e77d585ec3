use Rattle.std.proofs.Common.{◌≡◌, ◌∙◌, ◌/◌, ◌%◌, ◌<◌, ℕ, Option, None, Some, length, get_or, set, sym, ap, subst, arith}
use Rattle.std.specs.Prelude.{IsSome}
use Rattle.page_table.specs.Table.{Chunk, Regions, chunk_of, in_chunk}
use Rattle.page_table.proofs.RegionsLemmas.{Region, there_below, before_is, after_is, place_is, others_are, ok_so, err_so}
use Rattle.page_table.proofs.regions.Regions.add_page.Goals as goal

pub index_mut-requires : goal.index_mut-requires
index_mut-requires g c =
    let i = c.self.inside in
    omega (arith, there_below i.regions.items c.args.self.now c.args.number c.self.view_is c.requires.there, i.regions.ok.0)

pub add_page-requires-clause-there : goal.add_page-requires-clause-there
add_page-requires-clause-there g c =
    let n : ℕ = c.args.number in
    let rows : Regions = c.self.inside.regions.items in
    let below : n / 256 < length rows = there_below rows c.args.self.now n c.self.view_is c.requires.there in
    subst (λ (o : Option Chunk). IsSome o) (before_is rows c.args.self.now c.self.view_is n c.index_mut.result.now below c.index_mut.ensures.value) c.requires.there

pub add_page-requires-clause-none : goal.add_page-requires-clause-none
add_page-requires-clause-none g c =
    let n : ℕ = c.args.number in
    let rows : Regions = c.self.inside.regions.items in
    let below : n / 256 < length rows = there_below rows c.args.self.now n c.self.view_is c.requires.there in
    sym (ap (λ (chunk : Option Chunk). in_chunk chunk c.args.place) (before_is rows c.args.self.now c.self.view_is n c.index_mut.result.now below c.index_mut.ensures.value))
    ∙ c.requires.none

pub returns-clause-here : goal.returns-clause-here
returns-clause-here g c =
    let n : ℕ = c.args.number in
    let rows : Regions = c.self.inside.regions.items in
    let below : n / 256 < length rows = there_below rows c.args.self.now n c.self.view_is c.requires.there in
    let after : Region = c.add_page.new.self in
    ok_so c.add_page.result (in_chunk (get_or after (n % 256) None) c.args.place ≡ Some c.args.page)
    (in_chunk (chunk_of (set rows (n / 256) after) n) c.args.place ≡ Some c.args.page)
    (λ is. ap (λ (chunk : Option Chunk). in_chunk chunk c.args.place)
    (after_is rows c.args.self.now c.self.view_is n c.index_mut.result.now below c.index_mut.ensures.value after) ∙ is) c.add_page.ensures.here

pub returns-clause-places : goal.returns-clause-places
returns-clause-places g c = λ k apart.
    let n : ℕ = c.args.number in
    let rows : Regions = c.self.inside.regions.items in
    let below : n / 256 < length rows = there_below rows c.args.self.now n c.self.view_is c.requires.there in
    place_is rows c.args.self.now c.self.view_is n c.index_mut.result.now below c.index_mut.ensures.value c.add_page.new.self (λ page. page) k
    (c.add_page.ensures.places k apart)

pub returns-clause-others : goal.returns-clause-others
returns-clause-others g c =
    let n : ℕ = c.args.number in
    let rows : Regions = c.self.inside.regions.items in
    let below : n / 256 < length rows = there_below rows c.args.self.now n c.self.view_is c.requires.there in
    others_are rows c.args.self.now c.self.view_is n c.index_mut.result.now below c.index_mut.ensures.value c.add_page.new.self c.add_page.ensures.others

pub returns-clause-no_memory : goal.returns-clause-no_memory
returns-clause-no_memory g c =
    let n : ℕ = c.args.number in
    let rows : Regions = c.self.inside.regions.items in
    let below : n / 256 < length rows = there_below rows c.args.self.now n c.self.view_is c.requires.there in
    let after : Region = c.add_page.new.self in
    err_so c.add_page.result (in_chunk (get_or after (n % 256) None) c.args.place ≡ None) (in_chunk (chunk_of (set rows (n / 256) after) n) c.args.place ≡ None)
    (λ is. ap (λ (chunk : Option Chunk). in_chunk chunk c.args.place)
    (after_is rows c.args.self.now c.self.view_is n c.index_mut.result.now below c.index_mut.ensures.value after) ∙ is) c.add_page.ensures.no_memory
