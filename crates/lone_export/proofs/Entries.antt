-- The entries of a finite map by number, in order.
use Rattle.std.proofs.Common.{◌≡◌, ◌≢◌, ◌⊎◌, ℕ, ◌<◌, not, ◌==◌, List, [], ◌∷◌, ◌++◌, filter, Option, None, cond, refl, sym, ap, ◌∙◌, inl, inr}
use Rattle.std.proofs.lemmas.Bool.{cases_eq, eq-eqb, ne_eqb}
use Rattle.std.specs.Ordering.{nat_cmp, eq_by_cmp}
use Rattle.std.specs.Cmp.{nat_cmp_total, nat_cmp_is}
use Rattle.std.specs.declared.cmp.Ordering.TheVariants.{Greater}
use Rattle.std.specs.FinMap as fin
use Rattle.std.specs.FinMap.Entries.{put, by_order, is_sorted-where_key, find-where_key}
use Rattle.nbd_base.proofs.Numbers.{tied_same, tied_other}

module _ {X : Type 0} where
  -- each key is below k
  abbrev pub AreBelow : ℕ → List (ℕ × X) → Type 0
  AreBelow k [] = Unit {0}
  AreBelow k (e ∷ es) = (e.0 < k) × AreBelow k es

  put-last : (k : ℕ) (v : X) (es : List (ℕ × X)) → AreBelow k es → put nat_cmp k v es ≡ es ++ (k, v) ∷ []
  put-last k v [] below = refl
  put-last k v (e ∷ es) below =
      ap (λ o. by_order o ((k, v) ∷ e ∷ es) ((e.0, v) ∷ es) (e ∷ put nat_cmp k v es)) (sym (nat_cmp_is k e.0 Greater below.0)) ∙ ap (λ xs. e ∷ xs) (put-last k v es below.1)

  -- a greater key comes last
  pub entries-last : (m : fin.FinMap nat_cmp X) (k : ℕ) (v : X) → AreBelow k (fin.entries m) → fin.entries (fin.insert m k v) ≡ fin.entries m ++ (k, v) ∷ []
  entries-last m k v below = fin.entries-insert nat_cmp_total m k v ∙ put-last k v (fin.entries m) below

  same-filter : (k : ℕ) (es : List (ℕ × X)) → filter (λ e. not (eq_by_cmp nat_cmp k e.0)) es ≡ filter (λ e. not (e.0 == k)) es
  same-filter k [] = refl
  same-filter k (e ∷ es) = by (cases_eq k e.0) (same-filter k es)
    where
      by : ((k ≡ e.0) ⊎ (k ≢ e.0)) → filter (λ e. not (eq_by_cmp nat_cmp k e.0)) es ≡ filter (λ e. not (e.0 == k)) es → filter (λ e. not (eq_by_cmp nat_cmp k e.0)) (e ∷ es) ≡ filter (λ e. not (e.0 == k)) (e ∷ es)
      by (inl same) ih = rw (tied_same k e.0 same, eq-eqb e.0 k (sym same)) ih
      by (inr other) ih = rw (tied_other k e.0 other, ne_eqb e.0 k (λ s. other (sym s))) (ap (λ xs. e ∷ xs) ih)

  -- what is left once a key is removed
  pub entries-remove : (m : fin.FinMap nat_cmp X) (k : ℕ) → fin.entries (fin.remove m k) ≡ filter (λ e. not (e.0 == k)) (fin.entries m)
  entries-remove m k =
      let sorted = is_sorted-where_key nat_cmp (λ (x : ℕ). not (eq_by_cmp nat_cmp k x)) (fin.entries m) (fin.entries_sorted m) in
      let same : fin.remove m k ≡ fin.from_sorted (filter (λ (e : ℕ × X). not (eq_by_cmp nat_cmp k e.0)) (fin.entries m)) =
      fin.same_map nat_cmp_total fin.nat_cmp-IsAntisymmetric _ _ (λ q.
      fin.get-remove nat_cmp_total m k q ∙ turned q (fin.get m q) ∙ ap (λ o. cond (not (eq_by_cmp nat_cmp k q)) o None) (fin.get-entries m q)
      ∙ sym (find-where_key nat_cmp (λ (x : ℕ). not (eq_by_cmp nat_cmp k x)) q (λ x e. ap (λ (y : ℕ). not (eq_by_cmp nat_cmp k y)) (sym (fin.nat_cmp-IsAntisymmetric q x e))) (fin.entries m))
      ∙ sym (fin.get-from_sorted nat_cmp (filter (λ (e : ℕ × X). not (eq_by_cmp nat_cmp k e.0)) (fin.entries m)) q sorted)) in
      ap fin.entries same ∙ fin.entries-from_sorted nat_cmp (filter (λ (e : ℕ × X). not (eq_by_cmp nat_cmp k e.0)) (fin.entries m)) sorted ∙ same-filter k (fin.entries m)
    where
      turned : (q : ℕ) (o : Option X) → cond (eq_by_cmp nat_cmp q k) None o ≡ cond (not (eq_by_cmp nat_cmp k q)) o None
      turned q o = elim (cases_eq q k) [
        | inl same ↦ rw (tied_same q k same, tied_same k q (sym same)) refl
        | inr other ↦ rw (tied_other q k other, tied_other k q (λ e. other (sym e))) refl
      ]
