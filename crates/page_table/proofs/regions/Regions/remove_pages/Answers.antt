use Rattle.std.proofs.Common.{◌≡◌, ◌/◌, ◌<◌, ℕ, Option, None, length, if◌then◌else◌, sym, subst, arith}
use Rattle.std.specs.Prelude.{IsSome, IfSome}
use Rattle.number_sets.specs.Bits.{is_between}
use Rattle.page_table.specs.Table.{Chunk, Regions, taken}
use Rattle.page_table.proofs.RegionsLemmas.{Region, there_below, before_is, after_is, place_is, others_are}
use Rattle.page_table.proofs.regions.Regions.remove_pages.Goals as goal

pub index_mut-requires : goal.index_mut-requires
index_mut-requires g c =
    let i = c.self.inside in
    omega (arith, there_below i.regions.items c.args.self.now c.args.number c.self.view_is c.requires.there, i.regions.ok.0)

pub remove_pages-requires-clause-there : goal.remove_pages-requires-clause-there
remove_pages-requires-clause-there g c =
    let n : ℕ = c.args.number in
    let rows : Regions = c.self.inside.regions.items in
    let below : n / 256 < length rows = there_below rows c.args.self.now n c.self.view_is c.requires.there in
    subst (λ (o : Option Chunk). IsSome o) (before_is rows c.args.self.now c.self.view_is n c.index_mut.result.now below c.index_mut.ensures.value) c.requires.there

pub returns-clause-here : goal.returns-clause-here
returns-clause-here g c = λ k.
    let n : ℕ = c.args.number in
    let rows : Regions = c.self.inside.regions.items in
    let below : n / 256 < length rows = there_below rows c.args.self.now n c.self.view_is c.requires.there in
    place_is rows c.args.self.now c.self.view_is n c.index_mut.result.now below c.index_mut.ensures.value c.remove_pages.new.self
    (λ page. if is_between c.args.first c.args.end k then None else page) k (c.remove_pages.ensures.here k)

pub returns-clause-left : goal.returns-clause-left
returns-clause-left g c =
    let n : ℕ = c.args.number in
    let rows : Regions = c.self.inside.regions.items in
    let below : n / 256 < length rows = there_below rows c.args.self.now n c.self.view_is c.requires.there in
    let after : Region = c.remove_pages.new.self in
    subst (λ (o : Option Chunk). IfSome o (λ chunk. c.remove_pages.result ≡ taken chunk))
    (sym (after_is rows c.args.self.now c.self.view_is n c.index_mut.result.now below c.index_mut.ensures.value after)) c.remove_pages.ensures.left

pub returns-clause-others : goal.returns-clause-others
returns-clause-others g c =
    let n : ℕ = c.args.number in
    let rows : Regions = c.self.inside.regions.items in
    let below : n / 256 < length rows = there_below rows c.args.self.now n c.self.view_is c.requires.there in
    others_are rows c.args.self.now c.self.view_is n c.index_mut.result.now below c.index_mut.ensures.value c.remove_pages.new.self c.remove_pages.ensures.others
