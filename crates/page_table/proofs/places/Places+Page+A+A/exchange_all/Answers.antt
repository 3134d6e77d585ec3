use Rattle.std.proofs.Common.{◌≡◌, ◌∙◌, ◌+◌, ◌<◌, ◌≤◌, ◌++◌, ℕ, List, Option, Some, None, true, length, get_or, take, drop, sym, ap, subst, arith}
use Rattle.std.specs.Prelude.{IsSome}
use Rattle.std.proofs.lemmas.List.{with_items_is}
use Rattle.number_sets.specs.Bits.{is_set}
use Rattle.number_sets.proofs.RangeLemmas.{between_yes}
use Rattle.page_table.specs.Places.{in_places}
use Rattle.page_table.specs.Table.{in_chunk, put_from}
use Rattle.page_table.proofs.PlacesLemmas.{place_there}
use Rattle.page_table.proofs.RunLemmas.{as_long, run_fits, run_put}
use Rattle.page_table.proofs.places.Places+Page+A+A.exchange_all.Goals as goal

pub count_below-at-requires-clause-within : goal.count_below-at-requires-clause-within
count_below-at-requires-clause-within g c = omega (arith, c.self.told, c.requires.within, c.requires.some)

pub exchange_part-requires : goal.exchange_part-requires
exchange_part-requires g c =
    let i = c.self.inside in
    let first : ℕ = c.args.first in
    let ys : List (List ℕ) = c.args.pages.now in
    let there : (k : ℕ) → first ≤ k → k < first + length ys → is_set i.marks k ≡ true =
    λ k above below. place_there i.marks i.items.items k (omega (arith, c.requires.within, below))
    (subst (λ (all : List (Option (List ℕ))). IsSome (get_or all k None)) (sym c.self.view_is) (c.requires.there k (between_yes first (first + length ys) k above below))) in
    omega (arith, run_fits i.marks i.items.items ys first c.count_below-at.result c.requires.within c.self.invariant c.count_below-at.ensures there, ap length c.as_mut_slice.ensures.value)

pub returns-clause-here : goal.returns-clause-here
returns-clause-here g c = λ k.
    let i = c.self.inside in
    let first : ℕ = c.args.first in
    let at : ℕ = c.count_below-at.result in
    let ys : List (List ℕ) = c.args.pages.now in
    let there : (k : ℕ) → first ≤ k → k < first + length ys → is_set i.marks k ≡ true =
    λ k above below. place_there i.marks i.items.items k (omega (arith, c.requires.within, below))
    (subst (λ (all : List (Option (List ℕ))). IsSome (get_or all k None)) (sym c.self.view_is) (c.requires.there k (between_yes first (first + length ys) k above below))) in
    let fits : at + length ys ≤ length i.items.items = run_fits i.marks i.items.items ys first at c.requires.within c.self.invariant c.count_below-at.ensures there in
    let row : c.exchange_part.new.row ≡ take at i.items.items ++ (ys ++ drop (at + length ys) i.items.items) =
    c.exchange_part.ensures.row ∙ ap (λ (xs : List (List ℕ)). take at xs ++ (ys ++ drop (at + length ys) xs)) c.as_mut_slice.ensures.value in
    ap (λ (xs : List (List ℕ)). get_or (in_places i.marks xs) k None)
    (with_items_is i.items c.exchange_part.new.row (omega (arith, ap length row, as_long i.items.items ys at fits, i.items.ok.0)) ∙ row)
    ∙ run_put i.marks i.items.items ys first at c.requires.within c.self.invariant c.count_below-at.ensures there k
    ∙ ap (λ (all : List (Option (List ℕ))). put_from first ys (in_chunk (Some all)) k) c.self.view_is
