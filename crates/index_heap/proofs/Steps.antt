-- One step of an id up or down the heap.
use Rattle.std.proofs.Common.{◌≡◌, ℕ, ◌+◌, ◌*◌, ◌<◌, ℤ, true, false, Option, List, length, slice_index_or, refl, sym, ◌∙◌, arith}
use mathlib.Core.Logic.{⊎_elim, ◌⊎◌}
use Rattle.std.specs.List.{SwappedAt}
use Rattle.index_heap.specs.Heap.{sooner_id, parent, IsAfter, IsPaired, HasGap, IsLoose, IsSinking, IsHeap}
use Rattle.index_heap.proofs.Order.{id_one_way, id_chain, id_never_self}
use Rattle.index_heap.proofs.Cases.{same_or}

-- the parent of a place comes before it
parent_less : (j : ℕ) → 0 < j → parent j < j
parent_less j l = omega (arith, l)

less_not : (a b : ℕ) → a < b → a ≡ b → ⊥
less_not a b l e = absurd (omega (arith, l, e))

more_not : (a b : ℕ) → b < a → a ≡ b → ⊥
more_not a b l e = absurd (omega (arith, l, e))

module _ (keys : List (Option ℤ)) where
  pub chain : (order : List ℕ) (i j k : ℕ) → IsAfter keys order i j → IsAfter keys order j k → IsAfter keys order i k
  chain order i j k p q = record { after = id_chain keys (slice_index_or order i 0) (slice_index_or order j 0) (slice_index_or order k 0) p.after q.after }

  turn : (order : List ℕ) (i j : ℕ) → sooner_id keys (slice_index_or order i 0) (slice_index_or order j 0) ≡ true → IsAfter keys order j i
  turn order i j e = record { after = id_one_way keys (slice_index_or order i 0) (slice_index_or order j 0) e }

  -- what is known of two places of the old order holds of the places that hold the same ids now
  along : (xs ys : List ℕ) (i j i' j' : ℕ) → slice_index_or ys i' 0 ≡ slice_index_or xs i 0 → slice_index_or ys j' 0 ≡ slice_index_or xs j 0 → IsAfter keys xs i j → IsAfter keys ys i' j'
  along xs ys i j i' j' p q h = record { after = rw (p, q) h.after }

  -- the id at `at` was sooner than the one above it
  pub up_step : (xs ys zs ws : List ℕ) (at : ℕ) → IsLoose keys xs zs at → 0 < at → sooner_id keys (slice_index_or xs at 0) (slice_index_or xs (parent at) 0) ≡ true
      → length ys ≡ length xs → SwappedAt xs ys at (parent at) → IsPaired ys ws → IsLoose keys ys ws (parent at)
  up_step xs ys zs ws at h pos before long sw paired = record {
    keyed = h.keyed ∙ sym long;
    paired = paired;
    inside = rw long (omega (arith, h.inside, up));
    edges = edges;
    gap = gap;
  }
    where
      p : ℕ
      p = parent at

      up : parent at < at
      up = parent_less at pos

      edges : (j : ℕ) → 0 < j → j < length ys → (j ≡ parent at → ⊥) → (parent j ≡ parent at → ⊥) → IsAfter keys ys j (parent j)
      edges j jp jl nj np = same_or j at
          (λ e. absurd (np (rw e refl)))
          (λ na. same_or (parent j) at
          (λ e. along xs ys j (parent at) j (parent j) (sw.2 j 0 na nj) (rw e (sw.0 0)) (h.gap j pos jp (rw long at jl) e))
          (λ nb. along xs ys j (parent j) j (parent j) (sw.2 j 0 na nj) (sw.2 (parent j) 0 nb np) (h.edges j jp (rw long at jl) na nb)))

      -- the places under the parent, over what is above it
      gap : HasGap keys ys (parent at)
      gap j pp jp jl e =
          let k = parent (parent at) in
          let less : k < parent at = parent_less (parent at) pp in
          let above = sw.2 k 0 (less_not k at (omega (arith, less, up))) (less_not k (parent at) less) in
          let old : IsAfter keys xs (parent at) k = h.edges (parent at) pp (omega (arith, h.inside, up)) (less_not (parent at) at up) (less_not k at (omega (arith, less, up))) in
          same_or j at
          (λ ja. along xs ys (parent at) k j k (rw ja (sw.0 0)) above old)
          (λ na.
          let far : parent j < j = parent_less j jp in
          let nj = more_not j (parent at) (omega (arith, far, e)) in
          along xs ys j k j k (sw.2 j 0 na nj) above
          (chain xs j (parent at) k (rw e at (h.edges j jp (rw long at jl) na (λ z. less_not (parent at) at up (sym e ∙ z)))) old))

  pub up_done : (xs zs : List ℕ) (at : ℕ) → IsLoose keys xs zs at → (0 < at → IsAfter keys xs at (parent at)) → IsSinking keys xs zs at
  up_done xs zs at h done = record {
    keyed = h.keyed;
    paired = h.paired;
    inside = h.inside;
    edges = λ j jp jl np. same_or j at (λ e. rw e (done (rw e at jp))) (λ n. h.edges j jp jl n np);
    gap = h.gap;
  }

  -- the id at child `c` was sooner than the one at `at`, and so not later than the other child
  pub down_step : (xs ys zs ws : List ℕ) (at c : ℕ) → IsSinking keys xs zs at → 0 < c → parent c ≡ at → c < length xs
      → ((s : ℕ) → 0 < s → s < length xs → parent s ≡ at → IsAfter keys xs s c)
      → sooner_id keys (slice_index_or xs c 0) (slice_index_or xs at 0) ≡ true
      → length ys ≡ length xs → SwappedAt xs ys at c → IsPaired ys ws → IsSinking keys ys ws c
  down_step xs ys zs ws at c h cp pc ci first before long sw paired = record {
    keyed = h.keyed ∙ sym long;
    paired = paired;
    inside = rw long ci;
    edges = edges;
    gap = gap;
  }
    where
      under : at < c
      under = omega (arith, parent_less c cp, pc)

      edges : (j : ℕ) → 0 < j → j < length ys → (parent j ≡ c → ⊥) → IsAfter keys ys j (parent j)
      edges j jp jl np = same_or j c
          (λ e. along xs ys at c j (parent j) (rw e (sw.1 0)) (rw (e, pc) (sw.0 0)) (turn xs c at before))
          (λ nc. same_or j at
          (λ e.
          let less : parent j < at = omega (arith, parent_less j jp, e) in
          let gp : IsAfter keys xs c (parent at) = h.gap c (omega (arith, e, jp)) cp ci pc in
          let at_j : slice_index_or ys j 0 ≡ slice_index_or xs c 0 = rw e (sw.0 0) in
          let up : slice_index_or ys (parent j) 0 ≡ slice_index_or xs (parent at) 0 = sw.2 (parent j) 0 (less_not (parent j) at less) np ∙ rw e refl in
          along xs ys c (parent at) j (parent j) at_j up gp)
          (λ na. same_or (parent j) at
          (λ e. along xs ys j c j (parent j) (sw.2 j 0 na nc) (rw e (sw.0 0)) (first j jp (rw long at jl) e))
          (λ nb. along xs ys j (parent j) j (parent j) (sw.2 j 0 na nc) (sw.2 (parent j) 0 nb np) (h.edges j jp (rw long at jl) nb))))

      gap : HasGap keys ys c
      gap j _ jp jl e =
          let far : c < j = omega (arith, parent_less j jp, e) in
          along xs ys j c j (parent c) (sw.2 j 0 (more_not j at (omega (arith, far, under))) (more_not j c far)) (rw pc (sw.0 0))
          (rw e at (h.edges j jp (rw long at jl) (λ z. less_not at c under (sym z ∙ e))))

  pub down_done : (xs zs : List ℕ) (at : ℕ) → IsSinking keys xs zs at → ((s : ℕ) → 0 < s → s < length xs → parent s ≡ at → IsAfter keys xs s at) → IsHeap keys xs zs
  down_done xs zs at h done = record {
    keyed = h.keyed;
    paired = h.paired;
    edges = λ j jp jl. same_or (parent j) at (λ e. rw e (done j jp jl e)) (λ n. h.edges j jp jl n);
  }

  -- the sooner of the two children is not later than either
  pub first_of : (xs : List ℕ) (at left c : ℕ) → left ≡ 2 * at + 1
      → ((c ≡ left) ⊎ ((c ≡ left + 1) × (left + 1 < length xs)))
      → ((c ≡ left) → left + 1 < length xs → IsAfter keys xs (left + 1) left)
      → ((c ≡ left + 1) → IsAfter keys xs left (left + 1))
      → (s : ℕ) → 0 < s → s < length xs → parent s ≡ at → IsAfter keys xs s c
  first_of xs at left c is either one two s sp sl ps =
      same_or s c
      (λ e. rw e (record { after = id_never_self keys (slice_index_or xs c 0) }))
      (λ n. ⊎_elim
      (λ k. let e : s ≡ left + 1 = kids s at left sp ps is (λ z. n (z ∙ sym k)) in rw (e, k) (one k (rw e at sl)))
      (λ k. same_or s left (λ e. rw (e, k.0) (two k.0)) (λ z. absurd (n (kids s at left sp ps is z ∙ sym k.0))))
      either)
    where
      kids : (s at left : ℕ) → 0 < s → parent s ≡ at → left ≡ 2 * at + 1 → (s ≡ left → ⊥) → s ≡ left + 1
      kids s at left sp ps is n = omega (arith, sp, ps, is, n)

  -- the soonest child is not sooner than the id at `at`
  pub kids_done : (xs : List ℕ) (at c : ℕ) → ((s : ℕ) → 0 < s → s < length xs → parent s ≡ at → IsAfter keys xs s c)
      → sooner_id keys (slice_index_or xs c 0) (slice_index_or xs at 0) ≡ false → (s : ℕ) → 0 < s → s < length xs → parent s ≡ at → IsAfter keys xs s at
  kids_done xs at c first later s sp sl ps = chain xs s c at (first s sp sl ps) (record { after = later })
