-- Two ids that change places.
use Rattle.std.proofs.Common.{◌≡◌, ℕ, ◌<◌, List, length, slice_index_or, set, sym, ◌∙◌, ap, arith}
use Rattle.std.specs.List.{SwappedAt}
use Rattle.std.proofs.lemmas.List.{get_or-set_same, get_or-set_other, length-set}
use Rattle.index_heap.specs.Heap.{IsPaired}
use Rattle.index_heap.proofs.Cases.{same_or}

module _ (xs ys zs : List ℕ) (i j : ℕ) (h : IsPaired xs zs) (il : i < length xs) (jl : j < length xs) (sw : SwappedAt xs ys i j) (long : length ys ≡ length xs) where
  a : ℕ
  a = slice_index_or xs i 0

  b : ℕ
  b = slice_index_or xs j 0

  -- the places, in terms of the old order
  abbrev pub after : List ℕ
  after = set (set zs (slice_index_or xs j 0) i) (slice_index_or xs i 0) j

  at_a : slice_index_or after (slice_index_or xs i 0) 0 ≡ j
  at_a = get_or-set_same (set zs (slice_index_or xs j 0) i) (slice_index_or xs i 0) j 0 (simp length-set (omega (arith, h.same, h.id_in i il)))

  at_b : (slice_index_or xs j 0 ≡ slice_index_or xs i 0 → ⊥) → slice_index_or after (slice_index_or xs j 0) 0 ≡ i
  at_b n = get_or-set_other _ (slice_index_or xs i 0) (slice_index_or xs j 0) j 0 n ∙ get_or-set_same zs _ i 0 (omega (arith, h.same, h.id_in j jl))

  at_other : (id : ℕ) → (id ≡ slice_index_or xs i 0 → ⊥) → (id ≡ slice_index_or xs j 0 → ⊥) → slice_index_or after id 0 ≡ slice_index_or zs id 0
  at_other id na nb = get_or-set_other _ (slice_index_or xs i 0) id j 0 na ∙ get_or-set_other zs (slice_index_or xs j 0) id i 0 nb

  -- places with the same id are the same
  one_place : (k m : ℕ) → k < length xs → m < length xs → slice_index_or xs k 0 ≡ slice_index_or xs m 0 → k ≡ m
  one_place k m kl ml e = sym (h.place_of k kl) ∙ ap (λ id. slice_index_or zs id 0) e ∙ h.place_of m ml

  after_length : length after ≡ length ys
  after_length = simp length-set (h.same ∙ sym long)

  id_in : (k : ℕ) → k < length ys → slice_index_or ys k 0 < length ys
  id_in k kl = rw long (same_or k i
      (λ e. rw (e, sw.0 0) (h.id_in j jl))
      (λ ni. same_or k j (λ e. rw (e, sw.1 0) (h.id_in i il)) (λ nj. rw (sw.2 k 0 ni nj) (h.id_in k (rw long at kl)))))

  place_of : (k : ℕ) → k < length ys → slice_index_or after (slice_index_or ys k 0) 0 ≡ k
  place_of k kl = same_or k j
      (λ e. rw (e, sw.1 0) at_a)
      (λ nj. same_or k i
      (λ e. rw (e, sw.0 0) (at_b (λ z. nj (e ∙ sym (one_place j i jl il z)))))
      (λ ni. rw (sw.2 k 0 ni nj) (at_other _ (λ z. ni (one_place k i (rw long at kl) il z)) (λ z. nj (one_place k j (rw long at kl) jl z)) ∙ h.place_of k (rw long at kl))))

  place_in : (id : ℕ) → id < length ys → slice_index_or after id 0 < length ys
  place_in id l = rw long (same_or id (slice_index_or xs i 0)
      (λ e. rw (e, at_a) jl)
      (λ na. same_or id (slice_index_or xs j 0)
      (λ e. rw (e, at_b (λ z. na (e ∙ z))) il)
      (λ nb. rw (at_other id na nb) (h.place_in id (rw long at l)))))

  id_at : (id : ℕ) → id < length ys → slice_index_or ys (slice_index_or after id 0) 0 ≡ id
  id_at id l = same_or id (slice_index_or xs i 0)
      (λ e. rw (e, at_a) (sw.1 0))
      (λ na. same_or id (slice_index_or xs j 0)
      (λ e. rw (e, at_b (λ z. na (e ∙ z))) (sw.0 0))
      (λ nb.
      let was = h.id_at id (rw long at l) in
      rw (at_other id na nb) (sw.2 (slice_index_or zs id 0) 0 (λ z. na (sym was ∙ ap (λ k. slice_index_or xs k 0) z)) (λ z. nb (sym was ∙ ap (λ k. slice_index_or xs k 0) z)) ∙ was)))

  pub paired_after : IsPaired ys after
  paired_after = record { same = after_length; id_in = id_in; place_of = place_of; place_in = place_in; id_at = id_at }

-- with the places as the code writes them
pub exchanged : (xs ys zs : List ℕ) (i j : ℕ) → IsPaired xs zs → i < length xs → j < length xs → SwappedAt xs ys i j → length ys ≡ length xs
    → IsPaired ys (set (set zs (slice_index_or ys i 0) i) (slice_index_or ys j 0) j)
exchanged xs ys zs i j h il jl sw long = rw (sw.0 0, sw.1 0) (paired_after xs ys zs i j h il jl sw long)
