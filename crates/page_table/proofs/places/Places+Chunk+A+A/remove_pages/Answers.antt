use Rattle.std.proofs.Common.{◌≡◌, ◌∙◌, ℕ, Option, None, true, List, get_or, sym, ap, subst, arith}
use Rattle.std.specs.Prelude.{IsSome, IfSome, if◌then◌else◌}
use Rattle.number_sets.specs.Bits.{is_set, is_between}
use Rattle.page_table.specs.Table.{Chunk, in_chunk, taken}
use Rattle.page_table.proofs.PlacesLemmas.{place_below, place_there, item_found, item_changed, items_beside}
use Rattle.page_table.proofs.places.Places+Chunk+A+A.remove_pages.Goals as goal

pub index_mut-requires : goal.index_mut-requires
index_mut-requires g c =
    let i = c.self.inside in
    omega (arith, place_below i.marks c.args.chunk _ _ c.requires.chunk (place_there i.marks i.items.items c.args.chunk c.requires.chunk (subst (λ (all : List (Option Chunk)). IsSome (get_or all c.args.chunk None)) (sym c.self.view_is) c.requires.there)) c.self.invariant c.count_below-at.ensures, i.items.ok.0)

pub returns-clause-here : goal.returns-clause-here
returns-clause-here g c = λ k.
    let i = c.self.inside in
    let at : ℕ = c.count_below-at.result in
    let there : is_set i.marks c.args.chunk ≡ true = place_there i.marks i.items.items c.args.chunk c.requires.chunk (subst (λ (all : List (Option Chunk)). IsSome (get_or all c.args.chunk None)) (sym c.self.view_is) c.requires.there) in
    let old : Chunk = c.index_mut.result.now in
    let new : Chunk = c.remove_from.new.chunk in
    ap (λ (chunk : Option Chunk). in_chunk chunk k) (item_changed i.marks i.items.items c.args.chunk at old c.requires.chunk there c.self.invariant c.count_below-at.ensures c.index_mut.ensures.value new)
    ∙ c.remove_from.ensures.here k
    ∙ ap (λ (chunk : Option Chunk). if is_between c.args.first c.args.end k then None else in_chunk chunk k) (sym (ap (λ (all : List (Option Chunk)). get_or all c.args.chunk None) (sym c.self.view_is) ∙ item_found i.marks i.items.items c.args.chunk at old c.requires.chunk there c.self.invariant c.count_below-at.ensures c.index_mut.ensures.value))

pub returns-clause-left : goal.returns-clause-left
returns-clause-left g c =
    let i = c.self.inside in
    let at : ℕ = c.count_below-at.result in
    let there : is_set i.marks c.args.chunk ≡ true = place_there i.marks i.items.items c.args.chunk c.requires.chunk (subst (λ (all : List (Option Chunk)). IsSome (get_or all c.args.chunk None)) (sym c.self.view_is) c.requires.there) in
    let old : Chunk = c.index_mut.result.now in
    let new : Chunk = c.remove_from.new.chunk in
    subst (λ (o : Option Chunk). IfSome o (λ chunk. c.remove_from.result ≡ taken chunk)) (sym (item_changed i.marks i.items.items c.args.chunk at old c.requires.chunk there c.self.invariant c.count_below-at.ensures c.index_mut.ensures.value new)) c.remove_from.ensures.left

pub returns-clause-others : goal.returns-clause-others
returns-clause-others g c = λ q apart.
    let i = c.self.inside in
    let at : ℕ = c.count_below-at.result in
    let there : is_set i.marks c.args.chunk ≡ true = place_there i.marks i.items.items c.args.chunk c.requires.chunk (subst (λ (all : List (Option Chunk)). IsSome (get_or all c.args.chunk None)) (sym c.self.view_is) c.requires.there) in
    let old : Chunk = c.index_mut.result.now in
    items_beside i.marks i.items.items c.args.chunk at old c.requires.chunk there c.self.invariant c.count_below-at.ensures c.index_mut.ensures.value c.remove_from.new.chunk q apart
    ∙ ap (λ (all : List (Option Chunk)). get_or all q None) c.self.view_is
