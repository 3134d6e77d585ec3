use Rattle.std.proofs.Common.{◌≡◌, ◌<◌, ◌∙◌, sym, ap, length, rules, Option, Some, None, ℤ}
use Rattle.std.specs.Prelude.{FitsSigned}
use mir.Syntax.{w128}
use Rattle.std.proofs.lemmas.Int.{to_z-of_z}
use Rattle.nbd_base.specs.Range.{IsOptionInRange}
use Rattle.nbd_base.specs.Least.{keyed}
use Rattle.index_heap.specs.Keys.{key_less, flipped}
use Rattle.index_heap.proofs.Kept.{near_fits, key_fits}
use Rattle.index_heap.proofs.Top.{least_found, first_in, in_range_at}
use Rattle.index_heap.proofs.indexed.IndexHeap.least.Goals as goal

pub unfolded-requires : goal.unfolded-requires
unfolded-requires g c =
    let fits : FitsSigned w128 c.self.inside.offset = near_fits c.self.inside.offset c.self.invariant.near in
    let some : 0 < length c.self.inside.order.items = search rules in
    rw to_z-of_z (in_range_at c.self.inside.keys.items c.self.inside.offset c.index-first.result.now c.index.result.now c.self.invariant.in_range
    (first_in c.self.inside.keys.items c.self.inside.order.items c.self.inside.places.items c.index-first.result.now c.self.invariant.heap some c.index-first.ensures) c.index.ensures)

pub returns-in-Some : goal.returns-in-Some
returns-in-Some g c =
    let fits : FitsSigned w128 c.self.inside.offset = near_fits c.self.inside.offset c.self.invariant.near in
    let some : 0 < length c.self.inside.order.items = search rules in
    let x : IsOptionInRange (key_less c.self.inside.offset c.index.result.now)
    = in_range_at c.self.inside.keys.items c.self.inside.offset c.index-first.result.now c.index.result.now c.self.invariant.in_range
    (first_in c.self.inside.keys.items c.self.inside.order.items c.self.inside.places.items c.index-first.result.now c.self.invariant.heap some c.index-first.ensures) c.index.ensures in
    let is : key_less c.self.inside.offset c.index.result.now ≡ Some c.in-Some.key = sym (rw to_z-of_z at c.unfolded.ensures) ∙ c.in-Some.is in
    let key_fit : FitsSigned w128 c.in-Some.key = key_fits (key_less c.self.inside.offset c.index.result.now) c.in-Some.key is x in
    let found = least_found c.self.inside.keys.items c.args.self.now c.self.inside.order.items c.self.inside.places.items c.self.inside.offset c.index-first.result.now c.index.result.now c.self.invariant.heap some c.index-first.ensures c.index.ensures c.self.view_is in
    ap (λ (z : ℤ). Some (c.index-first.result.now, z)) (to_z-of_z w128 c.in-Some.key key_fit) ∙ sym (found ∙ ap (λ (z : Option ℤ). flipped (keyed z c.index-first.result.now)) is)

pub returns-in-None : goal.returns-in-None
returns-in-None g c =
    let fits : FitsSigned w128 c.self.inside.offset = near_fits c.self.inside.offset c.self.invariant.near in
    let some : 0 < length c.self.inside.order.items = search rules in
    let is : key_less c.self.inside.offset c.index.result.now ≡ None = sym (rw to_z-of_z at c.unfolded.ensures) ∙ c.in-None.is in
    let found = least_found c.self.inside.keys.items c.args.self.now c.self.inside.order.items c.self.inside.places.items c.self.inside.offset c.index-first.result.now c.index.result.now c.self.invariant.heap some c.index-first.ensures c.index.ensures c.self.view_is in
    sym (found ∙ ap (λ (z : Option ℤ). flipped (keyed z c.index-first.result.now)) is)
