use Rattle.std.proofs.Common.{arith, ◌≡◌, ◌∙◌, sym, ap, subst, pos, replicate, None}
use Rattle.index_heap.specs.Keys.{keys_less, AllKeysInRange}
use Rattle.index_heap.specs.Heap.{IsHeap}
use Rattle.index_heap.proofs.Top.{fresh, fresh_view, none_in_range}
use Rattle.index_heap.proofs.Kept.{zero_near}
use Rattle.index_heap.proofs.indexed.IndexHeap.new.Goals as goal

pub invariant_of-result : goal.invariant_of-result
invariant_of-result g c =
    let k : c.in_ok-keys.keys.items ≡ replicate c.args.n None = c.in_ok-keys.ensures in
    let fit = c.ranges.n.fits in record {
      few = omega (arith, c.in_ok-order.ensures.0);
      near = zero_near;
      in_range = subst (λ ks. AllKeysInRange (keys_less (pos 0) ks)) (sym k) (none_in_range c.args.n (pos 0));
      heap = subst (λ ks. IsHeap ks c.in_ok-order.order.items c.in_ok-places.places.items) (sym k) (fresh c.args.n c.in_ok-order.order.items c.in_ok-places.places.items c.in_ok-order.ensures.0 c.in_ok-places.ensures.0 c.in_ok-order.ensures.1 c.in_ok-places.ensures.1);
    }

pub returns : goal.returns
returns g c = ap (keys_less (pos 0)) c.in_ok-keys.ensures ∙ fresh_view c.args.n (pos 0)
