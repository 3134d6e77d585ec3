-- The first entry of a part of a map, which is the first of the map there.
use Rattle.std.proofs.Common.{◌≡◌, ℕ, ◌<◌, ◌≤◌, false, inl, inr, IsSome, Option, None, Some, List, ◌∷◌, refl, sym, ap, subst, arith}
use Rattle.std.specs.Ordering.{nat_cmp, is_gt}
use Rattle.std.specs.Cmp.{nat_cmp_is}
use Rattle.std.specs.Option.{IfSome}
use Rattle.std.specs.List.{slice_get}
use Rattle.std.specs.declared.cmp.Ordering.TheVariants.{Less, Equal}
use Rattle.std.specs.declared.ops.Bound.TheVariants.{Included, Excluded}
use Rattle.std.specs.BTreeMap.{BTreeMap, get}
use Rattle.std.specs.BTreeMap.Range.{IsLeBy, IsInRange, IsRangeOf}
use Rattle.std.proofs.lemmas.Bool.{cases_lt}
use Rattle.std.proofs.lemmas.Map.Keys.{le_from_not_gt}

not_below : (a b : ℕ) → a ≤ b → is_gt (nat_cmp a b) ≡ false
not_below a b le =
    elim (cases_lt a b) [
      | inl lt ↦ ap is_gt (sym (nat_cmp_is a b Less lt))
      | inr ge ↦ ap is_gt (sym (nat_cmp_is a b Equal (omega arith)))
    ]

in_range : (from end q : ℕ) → from ≤ q → q < end → IsInRange nat_cmp (Included from) (Excluded end) q
in_range from end q above below = (not_below from q above, sym (nat_cmp_is q end Less below))

module _ {V : Type 0} where
  not_some : (found : Option V) → (IsSome found → ⊥) → found ≡ None
  not_some None bad = refl
  not_some (Some value) bad = absurd (bad refl)

  pub none_before : (m : BTreeMap ℕ V) (rest : List (ℕ × V)) (from end : ℕ) → IsRangeOf nat_cmp (Included from) (Excluded end) m rest → (e : ℕ × V) (more : List (ℕ × V)) → rest ≡ e ∷ more → e.0 < end
      → (q : ℕ) → from ≤ q → q < e.0 → get nat_cmp m q ≡ None
  none_before m rest from end is e more first below q above before =
      not_some (get nat_cmp m q) (λ some.
      let least : IfSome (slice_get (e ∷ more) 0) (λ f. IsLeBy nat_cmp f.0 q) = subst (λ (r : List (ℕ × V)). IfSome (slice_get r 0) (λ f. IsLeBy nat_cmp f.0 q)) first (is.2 q (in_range from end q above (omega arith)) some) in
      let le : e.0 ≤ q = le_from_not_gt e.0 q least in
      omega (arith, le, before))
