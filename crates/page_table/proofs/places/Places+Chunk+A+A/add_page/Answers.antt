use Rattle.std.proofs.Common.{◌≡◌, ◌∙◌, ℕ, Option, Some, None, true, List, get_or, set, sym, ap, subst, arith}
use Rattle.std.specs.Prelude.{IsSome}
use Rattle.std.proofs.lemmas.List.{get_or-set_same, get_or-set_other}
use Rattle.number_sets.specs.Bits.{is_set}
use Rattle.page_table.specs.Places.{in_places}
use Rattle.page_table.specs.Table.{Chunk, in_chunk}
use Rattle.page_table.proofs.PlacesLemmas.{place_below, place_there, item_found, item_changed, items_beside}
use Rattle.page_table.proofs.RegionsLemmas.{ok_so, err_so}
use Rattle.page_table.proofs.ChunksLemmas.{either_way}
use Rattle.page_table.proofs.places.Places+Chunk+A+A.add_page.Goals as goal

pub index_mut-requires : goal.index_mut-requires
index_mut-requires g c =
    let i = c.self.inside in
    omega (arith, place_below i.marks c.args.chunk _ _ c.requires.chunk (place_there i.marks i.items.items c.args.chunk c.requires.chunk (subst (λ (all : List (Option Chunk)). IsSome (get_or all c.args.chunk None)) (sym c.self.view_is) c.requires.there)) c.self.invariant c.count_below-at.ensures, i.items.ok.0)

pub add-requires-clause-none : goal.add-requires-clause-none
add-requires-clause-none g c =
    let i = c.self.inside in
    let at : ℕ = c.count_below-at.result in
    let there : is_set i.marks c.args.chunk ≡ true = place_there i.marks i.items.items c.args.chunk c.requires.chunk (subst (λ (all : List (Option Chunk)). IsSome (get_or all c.args.chunk None)) (sym c.self.view_is) c.requires.there) in
    let old : Chunk = c.index_mut.result.now in
    sym (ap (λ (chunk : Option Chunk). in_chunk chunk c.args.place) (ap (λ (all : List (Option Chunk)). get_or all c.args.chunk None) (sym c.self.view_is) ∙ item_found i.marks i.items.items c.args.chunk at old c.requires.chunk there c.self.invariant c.count_below-at.ensures c.index_mut.ensures.value)) ∙ c.requires.none

pub returns-clause-here : goal.returns-clause-here
returns-clause-here g c =
    let i = c.self.inside in
    let at : ℕ = c.count_below-at.result in
    let there : is_set i.marks c.args.chunk ≡ true = place_there i.marks i.items.items c.args.chunk c.requires.chunk (subst (λ (all : List (Option Chunk)). IsSome (get_or all c.args.chunk None)) (sym c.self.view_is) c.requires.there) in
    let old : Chunk = c.index_mut.result.now in
    let new : Chunk = c.add.new.self in
    ok_so c.add.result (new ≡ set old c.args.place (Some c.args.page)) (in_chunk (get_or (in_places i.marks (set i.items.items at new)) c.args.chunk None) c.args.place ≡ Some c.args.page)
    (λ put. ap (λ (chunk : Option Chunk). in_chunk chunk c.args.place) (item_changed i.marks i.items.items c.args.chunk at old c.requires.chunk there c.self.invariant c.count_below-at.ensures c.index_mut.ensures.value new)
    ∙ ap (λ (chunk : Chunk). get_or chunk c.args.place None) put
    ∙ get_or-set_same old c.args.place (Some c.args.page) None (omega (arith, c.requires.place, c.add.ensures.long)))
    c.add.ensures.added

pub returns-clause-places : goal.returns-clause-places
returns-clause-places g c = λ k apart.
    let i = c.self.inside in
    let at : ℕ = c.count_below-at.result in
    let there : is_set i.marks c.args.chunk ≡ true = place_there i.marks i.items.items c.args.chunk c.requires.chunk (subst (λ (all : List (Option Chunk)). IsSome (get_or all c.args.chunk None)) (sym c.self.view_is) c.requires.there) in
    let old : Chunk = c.index_mut.result.now in
    let new : Chunk = c.add.new.self in
    ap (λ (chunk : Option Chunk). in_chunk chunk k) (item_changed i.marks i.items.items c.args.chunk at old c.requires.chunk there c.self.invariant c.count_below-at.ensures c.index_mut.ensures.value new)
    ∙ either_way c.add.result (new ≡ set old c.args.place (Some c.args.page)) (new ≡ old) (get_or new k None ≡ get_or old k None)
    (λ put. ap (λ (chunk : Chunk). get_or chunk k None) put ∙ get_or-set_other old c.args.place k (Some c.args.page) None apart)
    (λ same. ap (λ (chunk : Chunk). get_or chunk k None) same) c.add.ensures.added c.add.ensures.no_memory
    ∙ sym (ap (λ (chunk : Option Chunk). in_chunk chunk k) (ap (λ (all : List (Option Chunk)). get_or all c.args.chunk None) (sym c.self.view_is) ∙ item_found i.marks i.items.items c.args.chunk at old c.requires.chunk there c.self.invariant c.count_below-at.ensures c.index_mut.ensures.value))

pub returns-clause-others : goal.returns-clause-others
returns-clause-others g c = λ q apart.
    let i = c.self.inside in
    let at : ℕ = c.count_below-at.result in
    let there : is_set i.marks c.args.chunk ≡ true = place_there i.marks i.items.items c.args.chunk c.requires.chunk (subst (λ (all : List (Option Chunk)). IsSome (get_or all c.args.chunk None)) (sym c.self.view_is) c.requires.there) in
    let old : Chunk = c.index_mut.result.now in
    items_beside i.marks i.items.items c.args.chunk at old c.requires.chunk there c.self.invariant c.count_below-at.ensures c.index_mut.ensures.value c.add.new.self q apart
    ∙ ap (λ (all : List (Option Chunk)). get_or all q None) c.self.view_is

pub returns-clause-no_memory : goal.returns-clause-no_memory
returns-clause-no_memory g c =
    let i = c.self.inside in
    let at : ℕ = c.count_below-at.result in
    let there : is_set i.marks c.args.chunk ≡ true = place_there i.marks i.items.items c.args.chunk c.requires.chunk (subst (λ (all : List (Option Chunk)). IsSome (get_or all c.args.chunk None)) (sym c.self.view_is) c.requires.there) in
    let old : Chunk = c.index_mut.result.now in
    let new : Chunk = c.add.new.self in
    err_so c.add.result (new ≡ old) (in_chunk (get_or (in_places i.marks (set i.items.items at new)) c.args.chunk None) c.args.place ≡ None)
    (λ same. ap (λ (chunk : Option Chunk). in_chunk chunk c.args.place) (item_changed i.marks i.items.items c.args.chunk at old c.requires.chunk there c.self.invariant c.count_below-at.ensures c.index_mut.ensures.value new)
    ∙ ap (λ (chunk : Chunk). get_or chunk c.args.place None) same
    ∙ sym (ap (λ (chunk : Option Chunk). in_chunk chunk c.args.place) (ap (λ (all : List (Option Chunk)). get_or all c.args.chunk None) (sym c.self.view_is) ∙ item_found i.marks i.items.items c.args.chunk at old c.requires.chunk there c.self.invariant c.count_below-at.ensures c.index_mut.ensures.value)) ∙ c.requires.none)
    c.add.ensures.no_memory
