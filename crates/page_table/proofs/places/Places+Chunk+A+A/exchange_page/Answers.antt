use Rattle.std.proofs.Common.{◌≡◌, ◌∙◌, ℕ, Option, Some, None, true, List, get_or, set, sym, ap, arith}
use Rattle.std.proofs.lemmas.List.{get_or-set_same, get_or-set_other}
use Rattle.number_sets.specs.Bits.{is_set}
use Rattle.page_table.specs.Places.{in_places}
use Rattle.page_table.specs.Table.{Chunk, in_chunk}
use Rattle.page_table.proofs.PlacesLemmas.{place_none, place_below, item_found, item_changed, items_beside, item_put_back}
use Rattle.page_table.proofs.RegionsLemmas.{ok_so, if_ok_so, err_so}
use Rattle.page_table.proofs.ChunksLemmas.{either_way}
use Rattle.page_table.proofs.places.Places+Chunk+A+A.exchange_page.Goals as goal

pub returns-then-not-has-clause-none : goal.returns-then-not-has-clause-none
returns-then-not-has-clause-none g c =
    let i = c.self.inside in
    ap (λ (chunk : Option Chunk). in_chunk chunk c.args.place)
    (ap (λ (all : List (Option Chunk)). get_or all c.args.chunk None) (sym c.self.view_is)
    ∙ place_none i.marks i.items.items c.args.chunk c.requires.chunk (sym c.has.ensures ∙ c.if-not-has.true))

pub index_mut-requires : goal.index_mut-requires
index_mut-requires g c =
    let i = c.self.inside in
    omega (arith, place_below i.marks c.args.chunk _ _ c.requires.chunk (sym c.has.ensures ∙ c.if-not-has.false) c.self.invariant c.count_below-at.ensures, i.items.ok.0)

pub returns-clause-before : goal.returns-clause-before
returns-clause-before g c =
    let i = c.self.inside in
    let at : ℕ = c.count_below-at.result in
    let there : is_set i.marks c.args.chunk ≡ true = sym c.has.ensures ∙ c.if-not-has.false in
    let old : Chunk = c.index_mut.result.now in
    if_ok_so c.exchange.result (λ before. get_or old c.args.place None ≡ Some before) (λ before. in_chunk (get_or c.args.self.now c.args.chunk None) c.args.place ≡ Some before)
    (λ before is. ap (λ (chunk : Option Chunk). in_chunk chunk c.args.place) (ap (λ (all : List (Option Chunk)). get_or all c.args.chunk None) (sym c.self.view_is) ∙ item_found i.marks i.items.items c.args.chunk at old c.requires.chunk there c.self.invariant c.count_below-at.ensures c.index_mut.ensures.value) ∙ is)
    c.exchange.ensures.before

pub returns-clause-here : goal.returns-clause-here
returns-clause-here g c =
    let i = c.self.inside in
    let at : ℕ = c.count_below-at.result in
    let there : is_set i.marks c.args.chunk ≡ true = sym c.has.ensures ∙ c.if-not-has.false in
    let old : Chunk = c.index_mut.result.now in
    let new : Chunk = c.exchange.new.self in
    ok_so c.exchange.result (new ≡ set old c.args.place (Some c.args.page)) (in_chunk (get_or (in_places i.marks (set i.items.items at new)) c.args.chunk None) c.args.place ≡ Some c.args.page)
    (λ put. ap (λ (chunk : Option Chunk). in_chunk chunk c.args.place) (item_changed i.marks i.items.items c.args.chunk at old c.requires.chunk there c.self.invariant c.count_below-at.ensures c.index_mut.ensures.value new)
    ∙ ap (λ (chunk : Chunk). get_or chunk c.args.place None) put
    ∙ get_or-set_same old c.args.place (Some c.args.page) None (omega (arith, c.requires.place, c.exchange.ensures.long)))
    c.exchange.ensures.after

pub returns-clause-places : goal.returns-clause-places
returns-clause-places g c = λ k apart.
    let i = c.self.inside in
    let at : ℕ = c.count_below-at.result in
    let there : is_set i.marks c.args.chunk ≡ true = sym c.has.ensures ∙ c.if-not-has.false in
    let old : Chunk = c.index_mut.result.now in
    let new : Chunk = c.exchange.new.self in
    ap (λ (chunk : Option Chunk). in_chunk chunk k) (item_changed i.marks i.items.items c.args.chunk at old c.requires.chunk there c.self.invariant c.count_below-at.ensures c.index_mut.ensures.value new)
    ∙ either_way c.exchange.result (new ≡ set old c.args.place (Some c.args.page)) (new ≡ old) (get_or new k None ≡ get_or old k None)
    (λ put. ap (λ (chunk : Chunk). get_or chunk k None) put ∙ get_or-set_other old c.args.place k (Some c.args.page) None apart)
    (λ same. ap (λ (chunk : Chunk). get_or chunk k None) same) c.exchange.ensures.after c.exchange.ensures.same
    ∙ sym (ap (λ (chunk : Option Chunk). in_chunk chunk k) (ap (λ (all : List (Option Chunk)). get_or all c.args.chunk None) (sym c.self.view_is) ∙ item_found i.marks i.items.items c.args.chunk at old c.requires.chunk there c.self.invariant c.count_below-at.ensures c.index_mut.ensures.value))

pub returns-clause-others : goal.returns-clause-others
returns-clause-others g c = λ q apart.
    let i = c.self.inside in
    let at : ℕ = c.count_below-at.result in
    let there : is_set i.marks c.args.chunk ≡ true = sym c.has.ensures ∙ c.if-not-has.false in
    let old : Chunk = c.index_mut.result.now in
    items_beside i.marks i.items.items c.args.chunk at old c.requires.chunk there c.self.invariant c.count_below-at.ensures c.index_mut.ensures.value c.exchange.new.self q apart
    ∙ ap (λ (all : List (Option Chunk)). get_or all q None) c.self.view_is

pub returns-clause-none : goal.returns-clause-none
returns-clause-none g c =
    let i = c.self.inside in
    let at : ℕ = c.count_below-at.result in
    let there : is_set i.marks c.args.chunk ≡ true = sym c.has.ensures ∙ c.if-not-has.false in
    let old : Chunk = c.index_mut.result.now in
    err_so c.exchange.result (get_or old c.args.place None ≡ None) (in_chunk (get_or c.args.self.now c.args.chunk None) c.args.place ≡ None)
    (λ is. ap (λ (chunk : Option Chunk). in_chunk chunk c.args.place) (ap (λ (all : List (Option Chunk)). get_or all c.args.chunk None) (sym c.self.view_is) ∙ item_found i.marks i.items.items c.args.chunk at old c.requires.chunk there c.self.invariant c.count_below-at.ensures c.index_mut.ensures.value) ∙ is)
    c.exchange.ensures.none

pub returns-clause-same : goal.returns-clause-same
returns-clause-same g c =
    let i = c.self.inside in
    let at : ℕ = c.count_below-at.result in
    let there : is_set i.marks c.args.chunk ≡ true = sym c.has.ensures ∙ c.if-not-has.false in
    let old : Chunk = c.index_mut.result.now in
    let new : Chunk = c.exchange.new.self in
    err_so c.exchange.result (new ≡ old) (in_places i.marks (set i.items.items at new) ≡ c.args.self.now)
    (λ same. item_put_back i.marks i.items.items c.args.chunk at old c.requires.chunk there c.self.invariant c.count_below-at.ensures c.index_mut.ensures.value new same ∙ c.self.view_is)
    c.exchange.ensures.same
