use Rattle.std.proofs.Common.{◌≡◌, ◌∙◌, ◌<◌, ℕ, None, true, false, get_or, sym, ap, subst, arith}
use Rattle.std.specs.Prelude.{IsSome}
use Rattle.number_sets.specs.Bits.{is_set}
use Rattle.page_table.proofs.PlacesLemmas.{place_none, place_taken, some_so, some_both}
use Rattle.page_table.proofs.places.Places.last.Goals as goal

pub returns-clause-there : goal.returns-clause-there
returns-clause-there g c =
    let i = c.self.inside in
    some_both c.last.result (λ place. place < c.args.end) (λ place. is_set i.marks place ≡ true) (λ place. IsSome (get_or c.args.self.now place None))
    (λ place below is. subst (λ all. IsSome (get_or all place None)) c.self.view_is (place_taken i.marks i.items.items place (omega (arith, below, c.requires)) is c.self.invariant))
    c.last.ensures.ends c.last.ensures.member

pub returns-clause-last : goal.returns-clause-last
returns-clause-last g c =
    let i = c.self.inside in
    some_so c.last.result (λ place. (k : ℕ) → place < k → k < c.args.end → is_set i.marks k ≡ false)
    (λ place. (k : ℕ) → place < k → k < c.args.end → get_or c.args.self.now k None ≡ None)
    (λ place none k behind upto. ap (λ all. get_or all k None) (sym c.self.view_is) ∙ place_none i.marks i.items.items k (omega (arith, upto, c.requires)) (none k behind upto))
    c.last.ensures.last

pub returns-clause-none : goal.returns-clause-none
returns-clause-none g c = λ none k from upto.
    let i = c.self.inside in
    ap (λ all. get_or all k None) (sym c.self.view_is) ∙ place_none i.marks i.items.items k (omega (arith, upto, c.requires)) (c.last.ensures.none none k from upto)
