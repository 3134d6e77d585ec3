use Rattle.std.proofs.Common.{◌≡◌, ◌∙◌, ℕ, Option, None, Some, true, List, length, get_or, sym, ap, subst, arith}
use Rattle.std.specs.Prelude.{IsSome}
use Rattle.number_sets.specs.Bits.{is_set}
use Rattle.page_table.specs.Table.{Chunk, in_chunk, put_from}
use Rattle.page_table.proofs.PlacesLemmas.{place_below, item_found, item_changed, items_beside}
use Rattle.page_table.proofs.RunLemmas.{run_bit}
use Rattle.page_table.proofs.places.Places+Chunk+A+A.exchange_pages.Goals as goal

pub index_mut-requires : goal.index_mut-requires
index_mut-requires g c =
    let i = c.self.inside in
    let there : is_set i.marks c.args.chunk ≡ true = run_bit i.marks i.items.items c.args.self.now c.args.chunk c.args.first (length c.args.pages.now) c.self.view_is c.requires.chunk c.requires.some c.requires.there in
    omega (arith, place_below i.marks c.args.chunk _ _ c.requires.chunk there c.self.invariant c.count_below-at.ensures, i.items.ok.0)

pub exchange_all-requires-clause-there : goal.exchange_all-requires-clause-there
exchange_all-requires-clause-there g c = λ k inside.
    let i = c.self.inside in
    let at : ℕ = c.count_below-at.result in
    let there : is_set i.marks c.args.chunk ≡ true = run_bit i.marks i.items.items c.args.self.now c.args.chunk c.args.first (length c.args.pages.now) c.self.view_is c.requires.chunk c.requires.some c.requires.there in
    let old : Chunk = c.index_mut.result.now in
    let found : get_or c.args.self.now c.args.chunk None ≡ Some old =
    ap (λ (all : List (Option Chunk)). get_or all c.args.chunk None) (sym c.self.view_is) ∙ item_found i.marks i.items.items c.args.chunk at old c.requires.chunk there c.self.invariant c.count_below-at.ensures c.index_mut.ensures.value in
    subst (λ (chunk : Option Chunk). IsSome (in_chunk chunk k)) found (c.requires.there k inside)

pub returns-clause-here : goal.returns-clause-here
returns-clause-here g c = λ k.
    let i = c.self.inside in
    let at : ℕ = c.count_below-at.result in
    let there : is_set i.marks c.args.chunk ≡ true = run_bit i.marks i.items.items c.args.self.now c.args.chunk c.args.first (length c.args.pages.now) c.self.view_is c.requires.chunk c.requires.some c.requires.there in
    let old : Chunk = c.index_mut.result.now in
    let found : get_or c.args.self.now c.args.chunk None ≡ Some old =
    ap (λ (all : List (Option Chunk)). get_or all c.args.chunk None) (sym c.self.view_is) ∙ item_found i.marks i.items.items c.args.chunk at old c.requires.chunk there c.self.invariant c.count_below-at.ensures c.index_mut.ensures.value in
    ap (λ (chunk : Option Chunk). in_chunk chunk k) (item_changed i.marks i.items.items c.args.chunk at old c.requires.chunk there c.self.invariant c.count_below-at.ensures c.index_mut.ensures.value c.exchange_all.new.self)
    ∙ c.exchange_all.ensures.here k
    ∙ ap (λ (chunk : Option Chunk). put_from c.args.first c.args.pages.now (in_chunk chunk) k) (sym found)

pub returns-clause-others : goal.returns-clause-others
returns-clause-others g c = λ q apart.
    let i = c.self.inside in
    let at : ℕ = c.count_below-at.result in
    let there : is_set i.marks c.args.chunk ≡ true = run_bit i.marks i.items.items c.args.self.now c.args.chunk c.args.first (length c.args.pages.now) c.self.view_is c.requires.chunk c.requires.some c.requires.there in
    let old : Chunk = c.index_mut.result.now in
    items_beside i.marks i.items.items c.args.chunk at old c.requires.chunk there c.self.invariant c.count_below-at.ensures c.index_mut.ensures.value c.exchange_all.new.self q apart
    ∙ ap (λ (all : List (Option Chunk)). get_or all q None) c.self.view_is
