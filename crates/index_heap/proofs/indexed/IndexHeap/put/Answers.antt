use Rattle.std.proofs.Common.{arith, ◌≡◌, sym, ap, subst, length, set, get_or}
use Rattle.std.specs.Prelude.{FitsSigned}
use mir.Syntax.{w128}
use Rattle.std.proofs.lemmas.Int.{to_z-of_z}
use Rattle.std.proofs.lemmas.List.{length-set, length-map}
use Rattle.index_heap.specs.Heap.{IsLoose, IsHeap}
use Rattle.index_heap.proofs.Kept.{near_fits, put_view, put_in_range}
use Rattle.index_heap.proofs.Top.{loosened}
use Rattle.index_heap.proofs.indexed.IndexHeap.put.Goals as goal

pub settle-requires-clause-loose : goal.settle-requires-clause-loose
settle-requires-clause-loose g c =
    let heap = c.self.invariant.heap in
    let long : length c.self.inside.keys.items ≡ length c.args.self.now = simp length-map at (ap length c.self.view_is) in
    subst (λ ks. IsLoose ks c.self.inside.order.items c.self.inside.places.items (get_or c.self.inside.places.items c.args.id 0)) (sym c.as_slice.ensures.value)
    (loosened c.self.inside.keys.items c.self.inside.order.items c.self.inside.places.items c.args.id c.kept.result heap (omega (arith, heap.keyed, long, c.requires.id)))

pub invariant_of-self : goal.invariant_of-self
invariant_of-self g c =
    let heap = c.self.invariant.heap in
    let fits : FitsSigned w128 c.self.inside.offset = near_fits c.self.inside.offset c.self.invariant.near in
    let after : IsHeap (set c.self.inside.keys.items c.args.id c.kept.result) c.settle.new.order.items c.settle.new.places.items
    = subst (λ ks. IsHeap ks c.settle.new.order.items c.settle.new.places.items) c.as_slice.ensures.value c.settle.ensures in
    let long : length c.self.inside.keys.items ≡ length c.settle.new.order.items = simp length-set at after.keyed in record {
      few = omega (arith, long, heap.keyed, c.self.invariant.few);
      near = c.self.invariant.near;
      in_range = put_in_range c.self.inside.offset c.self.inside.keys.items c.args.id c.kept.result c.args.key (rw to_z-of_z at c.kept.ensures) c.requires.in_range c.self.invariant.in_range;
      heap = after;
    }

pub returns : goal.returns
returns g c =
    let fits : FitsSigned w128 c.self.inside.offset = near_fits c.self.inside.offset c.self.invariant.near in
    put_view c.self.inside.offset c.self.inside.keys.items c.args.self.now c.args.id c.kept.result c.args.key c.self.view_is (rw to_z-of_z at c.kept.ensures)
