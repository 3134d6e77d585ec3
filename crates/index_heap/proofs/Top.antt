-- The first id of a heap is the least, and a change of one key loosens the heap there alone.
use Rattle.std.proofs.Common.{◌≡◌, ℕ, zero, suc, ◌<◌, ◌≤◌, ℤ, false, Option, Some, None, List, ◌∷◌, replicate, length, slice_index_or, set, refl, sym, ◌∙◌, ap, subst, arith}
use Rattle.std.specs.Prelude.{◌-ℤ◌}
use Rattle.std.proofs.lemmas.List.Elements.{All-replicate}
use Rattle.std.proofs.lemmas.List.{get_or-set_other, length-set, length-map, get_or-map, get_or_default, length-replicate, get_or-replicate}
use Rattle.nbd_base.specs.Least.{keyed}
use Rattle.index_heap.specs.Keys.{key_less, keys_less, flipped, least_key, AllKeysInRange}
use Rattle.nbd_base.specs.Range.{IsOptionInRange}
use Rattle.index_heap.specs.Heap.{sooner, sooner_id, parent, IsAfter, IsLoose, IsHeap, IsCounted}
use Rattle.index_heap.proofs.Order.{id_never_self, sooner_less}
use Rattle.index_heap.proofs.Steps.{chain}
use Rattle.index_heap.proofs.Cases.{same_or}
use Rattle.index_heap.proofs.Least.{least_none, least_at}

heap_top : (keys : List (Option ℤ)) (order places : List ℕ) → IsHeap keys order places → (n j : ℕ) → j ≤ n → j < length order → IsAfter keys order j 0
heap_top keys order places h zero j a b = let z : j ≡ 0 = omega (arith, a) in rw z (record { after = id_never_self keys (slice_index_or order 0 0) })
heap_top keys order places h (suc n) j a b = same_or j 0
    (λ z. rw z (record { after = id_never_self keys (slice_index_or order 0 0) }))
    (λ nz.
    let pos : 0 < j = omega (arith, nz) in
    chain keys order j (parent j) 0 (h.edges j pos b) (heap_top keys order places h n (parent j) (omega (arith, a, pos)) (omega (arith, b, pos))))

-- no id is sooner than the first
id_top : (keys : List (Option ℤ)) (order places : List ℕ) → IsHeap keys order places → (id : ℕ) → id < length keys → sooner_id keys id (slice_index_or order 0 0) ≡ false
id_top keys order places h id l =
    let here : id < length order = omega (arith, h.keyed, l) in
    rw (h.paired.id_at id here) at (heap_top keys order places h (slice_index_or places id 0) (slice_index_or places id 0) (omega arith) (h.paired.place_in id here)).after

nothing_left : (x : Option ℤ) (a b : ℕ) → sooner x a None b ≡ false → x ≡ None
nothing_left None a b h = refl
nothing_left (Some x) a b h = cc

none_less : (o : ℤ) (x : Option ℤ) → x ≡ None → key_less o x ≡ None
none_less o x e = rw e refl

-- the key of the first id, less the offset, is the least
first_is_least : (keys : List (Option ℤ)) (o : ℤ) (id : ℕ) (x : Option ℤ) → id < length keys → slice_index_or keys id None ≡ x
    → ((j : ℕ) → j < length keys → sooner (slice_index_or keys j None) j x id ≡ false)
    → least_key (keys_less o keys) ≡ flipped (keyed (key_less o x) id)
first_is_least keys o id None l is h =
    ap flipped (least_none (keys_less o keys) 0 (λ j jl.
    let here : j < length keys = simp length-map at jl in
    get_or-map (key_less o) keys j None None here ∙ none_less o (slice_index_or keys j None) (nothing_left (slice_index_or keys j None) j id (h j here))))
first_is_least keys o id (Some k) l is h =
    ap flipped (least_at (keys_less o keys) 0 id (k -ℤ o) (simp length-map l) (get_or-map (key_less o) keys id None None l ∙ ap (key_less o) is) (λ j jl.
    let here : j < length keys = simp length-map at jl in
    rw (get_or-map (key_less o) keys j None None here) (sooner_less o (slice_index_or keys j None) j (Some k) id ∙ h j here)))
    ∙ ap (λ n. Some (n, k -ℤ o)) (omega arith)

pub top_is_least : (keys : List (Option ℤ)) (order places : List ℕ) (o : ℤ) → IsHeap keys order places → 0 < length order
    → least_key (keys_less o keys) ≡ flipped (keyed (key_less o (slice_index_or keys (slice_index_or order 0 0) None)) (slice_index_or order 0 0))
top_is_least keys order places o h l =
    first_is_least keys o (slice_index_or order 0 0) (slice_index_or keys (slice_index_or order 0 0) None) (omega (arith, h.keyed, h.paired.id_in 0 l)) refl (id_top keys order places h)

-- the same order holds of keys that are all less by as much
pub heap_less : (keys : List (Option ℤ)) (o : ℤ) (order places : List ℕ) → IsHeap keys order places → IsHeap (keys_less o keys) order places
heap_less keys o order places h = record {
  keyed = simp length-map h.keyed;
  paired = h.paired;
  edges = λ j jp jl.
      let p : parent j < length order = omega (arith, jp, jl) in
      let a : slice_index_or order j 0 < length keys = omega (arith, h.keyed, h.paired.id_in j jl) in
      let b : slice_index_or order (parent j) 0 < length keys = omega (arith, h.keyed, h.paired.id_in (parent j) p) in
      record {
        after = rw (get_or-map (key_less o) keys (slice_index_or order j 0) None None a, get_or-map (key_less o) keys (slice_index_or order (parent j) 0) None None b)
            (sooner_less o (slice_index_or keys (slice_index_or order j 0) None) (slice_index_or order j 0) (slice_index_or keys (slice_index_or order (parent j) 0) None) (slice_index_or order (parent j) 0) ∙ (h.edges j jp jl).after);
      };
}

-- the key of one id changed
unchanged : (keys : List (Option ℤ)) (order : List ℕ) (id : ℕ) (x : Option ℤ) (j k : ℕ) → (slice_index_or order j 0 ≡ id → ⊥) → (slice_index_or order k 0 ≡ id → ⊥) → IsAfter keys order j k → IsAfter (set keys id x) order j k
unchanged keys order id x j k nj nk h = record { after = rw (get_or-set_other keys id (slice_index_or order j 0) x None nj, get_or-set_other keys id (slice_index_or order k 0) x None nk) h.after }

pub loosened : (keys : List (Option ℤ)) (order places : List ℕ) (id : ℕ) (x : Option ℤ) → IsHeap keys order places → id < length order → IsLoose (set keys id x) order places (slice_index_or places id 0)
loosened keys order places id x h il = record {
  keyed = simp length-set h.keyed;
  paired = h.paired;
  inside = h.paired.place_in id il;
  edges = λ j jp jl na np. unchanged keys order id x j (parent j) (apart j jl na) (apart (parent j) (omega (arith, jp, jl)) np) (h.edges j jp jl);
  gap = λ j ap jp jl e.
      let at = slice_index_or places id 0 in
      let inside : slice_index_or places id 0 < length order = h.paired.place_in id il in
      let over : IsAfter keys order (slice_index_or places id 0) (parent (slice_index_or places id 0)) = h.edges (slice_index_or places id 0) ap inside in
      unchanged keys order id x j (parent (slice_index_or places id 0))
      (apart j jl (λ z. not_own j jp (e ∙ sym z)))
      (apart (parent (slice_index_or places id 0)) (omega (arith, ap, inside)) (λ z. not_own (slice_index_or places id 0) ap z))
      (chain keys order j (slice_index_or places id 0) (parent (slice_index_or places id 0)) (rw e at (h.edges j jp jl)) over);
}
  where
    not_own : (j : ℕ) → 0 < j → parent j ≡ j → ⊥
    not_own j jp e = absurd (omega (arith, jp, e))

    apart : (j : ℕ) → j < length order → (j ≡ slice_index_or places id 0 → ⊥) → slice_index_or order j 0 ≡ id → ⊥
    apart j jl na e = na (sym (h.paired.place_of j jl) ∙ ap (λ k. slice_index_or places k 0) e)

-- what the code reads
pub least_found : (keys now : List (Option ℤ)) (order places : List ℕ) (o : ℤ) (first : ℕ) (x : Option ℤ) → IsHeap keys order places → 0 < length order
    → first ≡ slice_index_or order 0 first → x ≡ slice_index_or keys first x → keys_less o keys ≡ now → least_key now ≡ flipped (keyed (key_less o x) first)
least_found keys now order places o first x h l a b e =
    let f : slice_index_or order 0 0 ≡ first = get_or_default order 0 0 first l ∙ sym a in
    let inside : first < length keys = omega (arith, h.keyed, f, h.paired.id_in 0 l) in
    let k : slice_index_or keys first None ≡ x = get_or_default keys first None x inside ∙ sym b in
    ap least_key (sym e) ∙ top_is_least keys order places o h l ∙ rw (f, k) refl

pub first_in : (keys : List (Option ℤ)) (order places : List ℕ) (first : ℕ) → IsHeap keys order places → 0 < length order → first ≡ slice_index_or order 0 first → first < length keys
first_in keys order places first h l a =
    let f : slice_index_or order 0 0 ≡ first = get_or_default order 0 0 first l ∙ sym a in
    omega (arith, h.keyed, f, h.paired.id_in 0 l)

pub in_range_at : (keys : List (Option ℤ)) (o : ℤ) (first : ℕ) (x : Option ℤ) → AllKeysInRange (keys_less o keys) → first < length keys → x ≡ slice_index_or keys first x → IsOptionInRange (key_less o x)
in_range_at keys o first x all l b =
    subst IsOptionInRange (get_or-map (key_less o) keys first x (key_less o x) l ∙ ap (key_less o) (sym b)) (all first (key_less o x) (simp length-map l))

-- with no keys every order is a heap
pub fresh : (n : ℕ) (order places : List ℕ) → length order ≡ n → length places ≡ n → IsCounted order → IsCounted places → IsHeap (replicate n None) order places
fresh n order places a b p q = record {
  keyed = simp length-replicate (sym a);
  paired = record {
    same = b ∙ sym a;
    id_in = λ k l. rw (p k l) l;
    place_of = λ k l. rw (p k l) (q k (omega (arith, a, b, l)));
    place_in = λ id l. rw (q id (omega (arith, a, b, l))) l;
    id_at = λ id l. rw (q id (omega (arith, a, b, l))) (p id l);
  };
  edges = λ j jp jl.
      let u = p (parent j) (omega (arith, jp, jl)) in
      record { after = rw (p j jl, get_or-replicate {A = Option ℤ} n j None None (omega (arith, a, jl))) refl };
}

pub fresh_view : (n : ℕ) (o : ℤ) → keys_less o (replicate n None) ≡ replicate n None
fresh_view zero o = refl
fresh_view (suc n) o = ap (λ ks. None ∷ ks) (fresh_view n o)

pub none_in_range : (n : ℕ) (o : ℤ) → AllKeysInRange (keys_less o (replicate n None))
none_in_range n o = subst AllKeysInRange (sym (fresh_view n o)) (All-replicate IsOptionInRange n None tt)
