use Rattle.std.proofs.Common.{◌/◌, ◌+◌, ◌-◌, ◌<◌, ℕ, Option, Some, [], length, get_or, if◌then◌else◌, subst, arith}
use Rattle.std.specs.Prelude.{IsSome}
use Rattle.number_sets.specs.Bits.{is_between}
use Rattle.page_table.specs.Table.{Chunk, Regions, chunk_of, in_chunk}
use Rattle.page_table.proofs.RegionsLemmas.{there_below, before_is, place_is, others_are}
use Rattle.page_table.proofs.RunLemmas.{run_there}
use Rattle.page_table.proofs.regions.Regions.exchange_pages.Goals as goal

pub index_mut-requires : goal.index_mut-requires
index_mut-requires g c =
    let i = c.self.inside in
    let n : ℕ = c.args.number in
    let now : Regions = c.args.self.now in
    omega (arith, there_below i.regions.items now n c.self.view_is (run_there (chunk_of now n) c.args.first (length c.args.pages.now) c.requires.some c.requires.there), i.regions.ok.0)

pub exchange_pages-requires-clause-there : goal.exchange_pages-requires-clause-there
exchange_pages-requires-clause-there g c = λ k inside.
    let n : ℕ = c.args.number in
    let now : Regions = c.args.self.now in
    let rows : Regions = c.self.inside.regions.items in
    let below : n / 256 < length rows = there_below rows now n c.self.view_is (run_there (chunk_of now n) c.args.first (length c.args.pages.now) c.requires.some c.requires.there) in
    subst (λ (chunk : Option Chunk). IsSome (in_chunk chunk k)) (before_is rows now c.self.view_is n c.index_mut.result.now below c.index_mut.ensures.value) (c.requires.there k inside)

pub returns-clause-here : goal.returns-clause-here
returns-clause-here g c = λ k.
    let n : ℕ = c.args.number in
    let now : Regions = c.args.self.now in
    let rows : Regions = c.self.inside.regions.items in
    let below : n / 256 < length rows = there_below rows now n c.self.view_is (run_there (chunk_of now n) c.args.first (length c.args.pages.now) c.requires.some c.requires.there) in
    place_is rows now c.self.view_is n c.index_mut.result.now below c.index_mut.ensures.value c.exchange_pages.new.self
    (λ page. if is_between c.args.first (c.args.first + length c.args.pages.now) k then Some (get_or c.args.pages.now (k - c.args.first) []) else page) k (c.exchange_pages.ensures.here k)

pub returns-clause-others : goal.returns-clause-others
returns-clause-others g c =
    let n : ℕ = c.args.number in
    let now : Regions = c.args.self.now in
    let rows : Regions = c.self.inside.regions.items in
    let below : n / 256 < length rows = there_below rows now n c.self.view_is (run_there (chunk_of now n) c.args.first (length c.args.pages.now) c.requires.some c.requires.there) in
    others_are rows now c.self.view_is n c.index_mut.result.now below c.index_mut.ensures.value c.exchange_pages.new.self c.exchange_pages.ensures.others
