-- A list with one element changed.
use Rattle.std.proofs.Common.{◌≡◌, ℕ, zero, suc, ◌+◌, ◌<◌, ◌≤◌, Bool, true, false, List, [], ◌∷◌, ◌++◌, length, filter, slice_get, Some, if◌then◌else◌, refl, ap, ◌∙◌, arith}
use Rattle.nbd_base.specs.Words.{change_at}

module _ {X : Type 0} where
  pub length-change_at : (f : X → X) (k : ℕ) (xs : List X) → length (change_at f k xs) ≡ length xs
  length-change_at f k [] = refl
  length-change_at f zero (x ∷ xs) = refl
  length-change_at f (suc k) (x ∷ xs) = ap suc (length-change_at f k xs)

  pub change-inside : (h : X → X) (xs : List X) (x : X) (s : ℕ) → s < length xs → change_at h s (xs ++ x ∷ []) ≡ change_at h s xs ++ x ∷ []
  change-inside h [] x s l = absurd (omega arith)
  change-inside h (y ∷ xs) x zero l = refl
  change-inside h (y ∷ xs) x (suc s) l = ap (λ zs. y ∷ zs) (change-inside h xs x s (omega arith))

  pub change-last : (h : X → X) (xs : List X) (x : X) (s : ℕ) → s ≡ length xs → change_at h s (xs ++ x ∷ []) ≡ xs ++ h x ∷ []
  change-last h [] x zero l = refl
  change-last h [] x (suc s) l = absurd (omega arith)
  change-last h (y ∷ xs) x zero l = absurd (omega arith)
  change-last h (y ∷ xs) x (suc s) l = ap (λ zs. y ∷ zs) (change-last h xs x s (omega arith))

  pub change-past : (h : X → X) (s : ℕ) (xs : List X) → length xs ≤ s → change_at h s xs ≡ xs
  change-past h s [] l = refl
  change-past h zero (x ∷ xs) l = absurd (omega arith)
  change-past h (suc s) (x ∷ xs) l = ap (λ ys. x ∷ ys) (change-past h s xs (omega arith))

  -- ---- how many pass a test

  pub filter-change_same : (p : X → Bool) (h : X → X) (s : ℕ) (xs : List X) → ((x : X) → slice_get xs s ≡ Some x → p (h x) ≡ p x) → length (filter p (change_at h s xs)) ≡ length (filter p xs)
  filter-change_same p h s [] same = refl
  filter-change_same p h zero (x ∷ xs) same = by (p x) (p (h x)) (same x refl)
    where
      by : (a b : Bool) → b ≡ a → length (if b then h x ∷ filter p xs else filter p xs) ≡ length (if a then x ∷ filter p xs else filter p xs)
      by true true e = refl
      by true false e = absurd (cc)
      by false true e = absurd (cc)
      by false false e = refl
  filter-change_same p h (suc s) (x ∷ xs) same = by (p x) (filter-change_same p h s xs same)
    where
      by : (b : Bool) → length (filter p (change_at h s xs)) ≡ length (filter p xs)
          → length (if b then x ∷ filter p (change_at h s xs) else filter p (change_at h s xs)) ≡ length (if b then x ∷ filter p xs else filter p xs)
      by true again = ap suc again
      by false again = again

  -- one that passed does no longer
  pub filter-change_less : (p : X → Bool) (h : X → X) (s : ℕ) (xs : List X) (x : X) → slice_get xs s ≡ Some x → p x ≡ true → p (h x) ≡ false → length (filter p (change_at h s xs)) + 1 ≡ length (filter p xs)
  filter-change_less p h s [] x here was is = absurd (cc)
  filter-change_less p h zero (y ∷ xs) x here was is =
      let e : y ≡ x = cc in
      rw (ap p e ∙ was, ap (λ z. p (h z)) e ∙ is) (omega arith)
  filter-change_less p h (suc s) (y ∷ xs) x here was is = by (p y) (filter-change_less p h s xs x here was is)
    where
      by : (b : Bool) → length (filter p (change_at h s xs)) + 1 ≡ length (filter p xs)
          → length (if b then y ∷ filter p (change_at h s xs) else filter p (change_at h s xs)) + 1 ≡ length (if b then y ∷ filter p xs else filter p xs)
      by true again = omega arith
      by false again = again
