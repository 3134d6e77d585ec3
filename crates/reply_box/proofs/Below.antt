-- Lists of what stands at each number below another.
use Rattle.std.proofs.Common.{◌≡◌, ◌≢◌, ℕ, zero, suc, ◌+◌, ◌<◌, ◌≤◌, Bool, true, false, List, [], ◌∷◌, ◌++◌, length, filter, slice_get, Some, None, if◌then◌else◌, refl, sym, ap, ◌∙◌, inl, inr, arith, length-append}
use Rattle.std.proofs.lemmas.Bool.{cases_eq, cases_lt}
use Rattle.std.proofs.lemmas.Option.{slice_get_past}
use Rattle.nbd_base.specs.Words.{change_at}
use Rattle.nbd_base.proofs.Words.{change-inside, change-last, change-past}
use Rattle.reply_box.specs.Seats.{each_below}

module _ {X : Type 0} where
  pub length-each_below : (f : ℕ → X) (n : ℕ) → length (each_below f n) ≡ n
  length-each_below f zero = refl
  length-each_below f (suc n) = let a = length-append (each_below f n) (f n ∷ []) in let b = length-each_below f n in omega arith

  get-inside : (xs : List X) (x : X) (s : ℕ) → s < length xs → slice_get (xs ++ x ∷ []) s ≡ slice_get xs s
  get-inside [] x s h = absurd (omega arith)
  get-inside (y ∷ xs) x zero h = refl
  get-inside (y ∷ xs) x (suc s) h = get-inside xs x s (omega arith)

  get-last : (xs : List X) (x : X) (s : ℕ) → s ≡ length xs → slice_get (xs ++ x ∷ []) s ≡ Some x
  get-last [] x zero h = refl
  get-last [] x (suc s) h = absurd (omega arith)
  get-last (y ∷ xs) x zero h = absurd (omega arith)
  get-last (y ∷ xs) x (suc s) h = get-last xs x s (omega arith)

  -- what stands at a number below n
  pub get-each_below : (f : ℕ → X) (n s : ℕ) → s < n → slice_get (each_below f n) s ≡ Some (f s)
  get-each_below f zero s h = absurd (omega arith)
  get-each_below f (suc n) s h =
      let long = length-each_below f n in
      elim (cases_eq s n) [
        | inl same ↦ get-last (each_below f n) (f n) s (omega arith) ∙ ap (λ k. Some (f k)) (sym same)
        | inr other ↦ get-inside (each_below f n) (f n) s (omega arith) ∙ get-each_below f n s (omega arith)
      ]

  pub past-each_below : (f : ℕ → X) (n s : ℕ) → n ≤ s → slice_get (each_below f n) s ≡ None
  past-each_below f n s h = slice_get_past (each_below f n) s (let a = length-each_below f n in omega arith)

  -- what is alike below n
  pub each_below-alike : (n : ℕ) (f g : ℕ → X) → ((k : ℕ) → k < n → g k ≡ f k) → each_below g n ≡ each_below f n
  each_below-alike zero f g alike = refl
  each_below-alike (suc n) f g alike = rw (each_below-alike n f g (λ k h. alike k (omega arith)), alike n (omega arith)) refl

  -- one number has another value
  pub each_below-change : (h : X → X) (n s : ℕ) (f g : ℕ → X) → g s ≡ h (f s) → ((k : ℕ) → k ≢ s → g k ≡ f k) → each_below g n ≡ change_at h s (each_below f n)
  each_below-change h zero s f g one others = refl
  each_below-change h (suc n) s f g one others =
      let long = length-each_below f n in
      elim (cases_lt s n) [
        | inl less ↦
            rw (each_below-change h n s f g one others, others n (λ e. absurd (omega arith)))
            (sym (change-inside h (each_below f n) (f n) s (omega arith)))
        | inr more ↦ elim (cases_eq s n) [
          | inl same ↦
              rw (each_below-alike n f g (λ k l. others k (λ e. absurd (omega arith))))
              (ap (λ x. each_below f n ++ x ∷ []) (ap g (sym same) ∙ one ∙ ap (λ k. h (f k)) same) ∙ sym (change-last h (each_below f n) (f n) s (omega arith)))
          | inr other ↦
              each_below-alike (suc n) f g (λ k l. others k (λ e. absurd (omega arith)))
              ∙ sym (change-past h s (each_below f (suc n)) (let a = length-each_below f (suc n) in omega arith))
        ]
      ]

  -- ---- how many pass a test

  -- one more that passes, at the end
  pub filter-append_one : (p : X → Bool) (xs : List X) (x : X) → p x ≡ true → length (filter p (xs ++ x ∷ [])) ≡ length (filter p xs) + 1
  filter-append_one p [] x is = rw is refl
  filter-append_one p (y ∷ xs) x is = by (p y) (filter-append_one p xs x is)
    where
      by : (b : Bool) → length (filter p (xs ++ x ∷ [])) ≡ length (filter p xs) + 1
          → length (if b then y ∷ filter p (xs ++ x ∷ []) else filter p (xs ++ x ∷ [])) ≡ length (if b then y ∷ filter p xs else filter p xs) + 1
      by true again = omega arith
      by false again = again
