use Rattle.std.proofs.Common.{arith, ◌≡◌, ◌∙◌, sym, ap, subst, pos, length, drop}
use Rattle.std.proofs.lemmas.Int.{to_z-of_z}
use Rattle.index_heap.specs.Keys.{keys_less}
use Rattle.index_heap.specs.Heap.{IsHeap}
use Rattle.index_heap.proofs.Kept.{folded_keys, less_zero}
use Rattle.index_heap.proofs.Top.{heap_less}
use Rattle.index_heap.proofs.fold.folded.Goals as goal

pub returns-clause-keys : goal.returns-clause-keys
returns-clause-keys g c =
    let fits = c.ranges.offset in
    let n : length c.args.keys.now.items ≡ c.args.keys.now.len = omega (arith, c.args.keys.now.ok.0) in
    let is : c.fold.new.keys ≡ keys_less c.args.offset c.args.keys.now.items = (rw to_z-of_z at c.fold.ensures) ∙ ap (keys_less c.args.offset) c.as_mut_slice.ensures.value in
    ap (keys_less (pos 0)) (folded_keys c.args.keys.now.len c.args.keys.now.items c.fold.new.keys (drop (length c.fold.new.keys) c.args.keys.now.items) c.args.offset is n)
    ∙ less_zero (keys_less c.args.offset c.args.keys.now.items)

pub returns-clause-order : goal.returns-clause-order
returns-clause-order g c = λ order places h.
    let fits = c.ranges.offset in
    let n : length c.args.keys.now.items ≡ c.args.keys.now.len = omega (arith, c.args.keys.now.ok.0) in
    let is : c.fold.new.keys ≡ keys_less c.args.offset c.args.keys.now.items = (rw to_z-of_z at c.fold.ensures) ∙ ap (keys_less c.args.offset) c.as_mut_slice.ensures.value in
    subst (λ ks. IsHeap ks order places) (sym (folded_keys c.args.keys.now.len c.args.keys.now.items c.fold.new.keys (drop (length c.fold.new.keys) c.args.keys.now.items) c.args.offset is n))
    (heap_less c.args.keys.now.items c.args.offset order places h)
