use Rattle.std.proofs.Common.{◌≡◌, ◌∙◌, sym, ap, subst, ℤ}
use Rattle.std.specs.Prelude.{FitsSigned}
use mir.Syntax.{w128}
use Rattle.std.proofs.lemmas.Int.{to_z-of_z}
use Rattle.index_heap.specs.Keys.{keys_less, AllKeysInRange}
use Rattle.index_heap.proofs.Kept.{near_fits, range_fits, sum_is, less_twice}
use Rattle.index_heap.proofs.indexed.IndexHeap.shift.Goals as goal

pub folded-self-inside-requires : goal.folded-self-inside-requires
folded-self-inside-requires g c =
    let o = c.self.inside.offset in
    let d = c.args.delta in
    let sum = sum_is c.self.inside.offset c.args.delta c.self.invariant.near c.requires.delta (range_fits c.args.delta c.requires.delta) in
    subst (λ (z : ℤ). AllKeysInRange (keys_less z c.self.inside.keys.items)) (sym sum)
    (subst AllKeysInRange (sym (less_twice c.self.inside.offset c.args.delta c.self.inside.keys.items ∙ ap (keys_less c.args.delta) c.self.view_is)) c.requires.in_range)

pub invariant_of-self : goal.invariant_of-self
invariant_of-self g c =
    let f = c.folded-self-inside in
    let fits : FitsSigned w128 c.folded-self-inside.result = near_fits c.folded-self-inside.result f.ensures.near in
    let sum = sum_is c.self.inside.offset c.args.delta c.self.invariant.near c.requires.delta (range_fits c.args.delta c.requires.delta) in
    let keys : keys_less c.folded-self-inside.result c.folded-self-inside.new.keys.items ≡ keys_less c.args.delta c.args.self.now
    = f.ensures.keys ∙ ap (λ (z : ℤ). keys_less z c.self.inside.keys.items) sum ∙ less_twice c.self.inside.offset c.args.delta c.self.inside.keys.items ∙ ap (keys_less c.args.delta) c.self.view_is in
    rw to_z-of_z (record {
      few = c.self.invariant.few;
      near = f.ensures.near;
      in_range = subst AllKeysInRange (sym keys) c.requires.in_range;
      heap = f.ensures.order c.self.inside.order.items c.self.inside.places.items c.self.invariant.heap;
    })

pub returns : goal.returns
returns g c =
    let f = c.folded-self-inside in
    let fits : FitsSigned w128 c.folded-self-inside.result = near_fits c.folded-self-inside.result f.ensures.near in
    let sum = sum_is c.self.inside.offset c.args.delta c.self.invariant.near c.requires.delta (range_fits c.args.delta c.requires.delta) in
    let keys : keys_less c.folded-self-inside.result c.folded-self-inside.new.keys.items ≡ keys_less c.args.delta c.args.self.now
    = f.ensures.keys ∙ ap (λ (z : ℤ). keys_less z c.self.inside.keys.items) sum ∙ less_twice c.self.inside.offset c.args.delta c.self.inside.keys.items ∙ ap (keys_less c.args.delta) c.self.view_is in
    ap (λ (z : ℤ). keys_less z c.folded-self-inside.new.keys.items) (to_z-of_z w128 c.folded-self-inside.result fits) ∙ keys
