-- Items in places after one of them has changed.
use Rattle.std.proofs.Common.{◌≡◌, ◌≢◌, ℕ, zero, suc, ◌+◌, ◌-◌, ◌<◌, ◌≤◌, Bool, true, false, cond, is_some, Option, Some, None, List, [], ◌∷◌, length, get_or, set, replicate, inl, inr, refl, sym, ap, subst, ◌∙◌, arith}
use Rattle.std.specs.Prelude.{IsSome, IfSome}
use Rattle.std.specs.List.{filter, insert, remove}
use Rattle.std.proofs.lemmas.Bool.{cases_Bool}
use Rattle.std.proofs.lemmas.List.{set-get_or, get_or-set_same, get_or-set_other}
use Rattle.number_sets.specs.Bits.{is_set}
use Rattle.page_table.specs.Places.{spread, in_places}
use Rattle.number_sets.proofs.CountLemmas.{count_of, count-zero, count-cons, count-append, count_le}

-- what a test says of the next places
next_is : (p : ℕ → Bool) (from i : ℕ) (b : Bool) → p (from + suc i) ≡ b → p ((from + 1) + i) ≡ b
next_is p from i b is = let same : (from + 1) + i ≡ from + suc i = omega arith in ap p same ∙ is

first_is : (p : ℕ → Bool) (from : ℕ) (b : Bool) → p (from + zero) ≡ b → p from ≡ b
first_is p from b is = let same : from ≡ from + zero = omega arith in ap p same ∙ is

from_zero : (p : ℕ → Bool) (i : ℕ) (b : Bool) → p i ≡ b → p (0 + i) ≡ b
from_zero p i b is = let same : 0 + i ≡ i = omega arith in ap p same ∙ is

-- of a place that passes, or not, how many pass before the next ones
count_true : (p : ℕ → Bool) (from n : ℕ) → p from ≡ true → count_of p from (suc n) ≡ suc (count_of p (from + 1) n)
count_true p from n is = omega (arith, count-cons p from n, ap {B = ℕ} (λ (b : Bool). cond b 1 0) is)

count_false : (p : ℕ → Bool) (from n : ℕ) → p from ≡ false → count_of p from (suc n) ≡ count_of p (from + 1) n
count_false p from n is = omega (arith, count-cons p from n, ap {B = ℕ} (λ (b : Bool). cond b 1 0) is)

-- how many pass before one that passes
pub count_before : (p : ℕ → Bool) (from n i : ℕ) → i < n → p (from + i) ≡ true → count_of p from i < count_of p from n
count_before p from zero i below is = absurd (omega arith)
count_before p from (suc n) zero below is = omega (arith, count-zero p from, count_true p from n (first_is p from true is))
count_before p from (suc n) (suc i) below is =
    omega (arith, count-cons p from n, count-cons p from i, count_before p (from + 1) n i (omega arith) (next_is p from i true is))

pub count_upto : (p : ℕ → Bool) (from n i : ℕ) → i ≤ n → count_of p from i ≤ count_of p from n
count_upto p from n zero below = omega (arith, count-zero p from)
count_upto p from zero (suc i) below = absurd (omega arith)
count_upto p from (suc n) (suc i) below = omega (arith, count-cons p from n, count-cons p from i, count_upto p (from + 1) n i (omega arith))

-- of two tests that say the same but for one place
pub count_same : (p q : ℕ → Bool) (from n : ℕ) → ((k : ℕ) → from ≤ k → q k ≡ p k) → count_of q from n ≡ count_of p from n
count_same p q from zero same = count-zero q from ∙ sym (count-zero p from)
count_same p q from (suc n) same =
    omega (arith, count-cons p from n, count-cons q from n, ap {B = ℕ} (λ (b : Bool). cond b 1 0) (same from (omega arith)), count_same p q (from + 1) n (λ k above. same k (omega arith)))

pub count_added : (p q : ℕ → Bool) (from n i : ℕ) → i < n → p (from + i) ≡ false → q (from + i) ≡ true → ((k : ℕ) → k ≢ from + i → q k ≡ p k) → count_of q from n ≡ count_of p from n + 1
count_added p q from zero i below was is others = absurd (omega arith)
count_added p q from (suc n) zero below was is others =
    omega (arith, count_false p from n (first_is p from false was), count_true q from n (first_is q from true is), count_same p q (from + 1) n (λ k above. others k (λ same. absurd (omega arith))))
count_added p q from (suc n) (suc i) below was is others =
    omega (
      arith,
      count-cons p from n,
      count-cons q from n,
      ap {B = ℕ} (λ (b : Bool). cond b 1 0) (others from (λ same. absurd (omega arith))),
      count_added p q (from + 1) n i (omega arith) (next_is p from i false was) (next_is q from i true is) (λ k apart. others k (λ same. apart (omega arith))),
    )

-- how many there are
spread-length : {X : Type 0} (p : ℕ → Bool) (from n : ℕ) (xs : List X) → length (spread p from n xs) ≡ n
spread-length p from zero xs = refl
spread-length p from (suc n) [] = ap suc (spread-length p (from + 1) n [])
spread-length p from (suc n) (x ∷ xs) =
    elim (cases_Bool (p from)) [
      | inl is ↦ rw is (ap suc (spread-length p (from + 1) n xs))
      | inr is ↦ rw is (ap suc (spread-length p (from + 1) n (x ∷ xs)))
    ]

spread_empty : {X : Type 0} (p : ℕ → Bool) (from n : ℕ) → ◌≡◌ {A = List (Option X)} (spread p from n []) (replicate n None)
spread_empty p from zero = refl
spread_empty {X} p from (suc n) = ap {A = List (Option X)} (λ rest. None ∷ rest) (spread_empty p (from + 1) n)

spread_taken : {X : Type 0} (p : ℕ → Bool) (from n : ℕ) (xs : List X) → length xs ≡ count_of p from n → length (filter is_some (spread p from n xs)) ≡ length xs
spread_taken p from zero [] all = refl
spread_taken p from zero (x ∷ xs) all = absurd (omega (arith, count-zero p from))
spread_taken p from (suc n) [] all = spread_taken p (from + 1) n [] (omega (arith, count-cons p from n))
spread_taken p from (suc n) (x ∷ xs) all =
    elim (cases_Bool (p from)) [
      | inl is ↦ rw is (ap suc (spread_taken p (from + 1) n xs (omega (arith, count_true p from n is))))
      | inr is ↦ rw is (spread_taken p (from + 1) n (x ∷ xs) (omega (arith, count_false p from n is)))
    ]

-- what a place has
spread_none : {X : Type 0} (p : ℕ → Bool) (from n i : ℕ) (xs : List X) → i < n → p (from + i) ≡ false → get_or (spread p from n xs) i None ≡ None
spread_none p from zero i xs below is = absurd (omega arith)
spread_none p from (suc n) zero [] below is = refl
spread_none p from (suc n) (suc i) [] below is = spread_none p (from + 1) n i [] (omega arith) (next_is p from i false is)
spread_none p from (suc n) zero (x ∷ xs) below is = rw (first_is p from false is) refl
spread_none p from (suc n) (suc i) (x ∷ xs) below is =
    elim (cases_Bool (p from)) [
      | inl here ↦ rw here (spread_none p (from + 1) n i xs (omega arith) (next_is p from i false is))
      | inr here ↦ rw here (spread_none p (from + 1) n i (x ∷ xs) (omega arith) (next_is p from i false is))
    ]

spread_some : {X : Type 0} (p : ℕ → Bool) (from n i at : ℕ) (xs : List X) (d : X) → i < n → p (from + i) ≡ true → at ≡ count_of p from i → at < length xs
    → get_or (spread p from n xs) i None ≡ Some (get_or xs at d)
spread_some p from zero i at xs d below is place less = absurd (omega arith)
spread_some p from (suc n) i at [] d below is place less = absurd (omega arith)
spread_some p from (suc n) zero at (x ∷ xs) d below is place less =
    let none : at ≡ 0 = omega (arith, count-zero p from) in rw (first_is p from true is, none) refl
spread_some p from (suc n) (suc i) at (x ∷ xs) d below is place less =
    elim (cases_Bool (p from)) [
      | inl here ↦ let more : at ≡ suc (count_of p (from + 1) i) = omega (arith, count_true p from i here) in
          rw (here, more) (spread_some p (from + 1) n i (count_of p (from + 1) i) xs d (omega arith) (next_is p from i true is) refl (omega arith))
      | inr here ↦ rw here (spread_some p (from + 1) n i at (x ∷ xs) d (omega arith) (next_is p from i true is) (omega (arith, count_false p from i here)) less)
    ]

-- the next places, where the first has an item, or doesn't
has_first : {X : Type 0} (p : ℕ → Bool) (from n : ℕ) (x : X) (xs : List X) → p from ≡ true → spread p from (suc n) (x ∷ xs) ≡ Some x ∷ spread p (from + 1) n xs
has_first p from n x xs is = rw is refl

no_first : {X : Type 0} (p : ℕ → Bool) (from n : ℕ) (xs : List X) → p from ≡ false → spread p from (suc n) xs ≡ None ∷ spread p (from + 1) n xs
no_first p from n [] is = refl
no_first p from n (x ∷ xs) is = rw is refl

-- two tests that say the same
spread_same : {X : Type 0} (p q : ℕ → Bool) (from n : ℕ) (xs : List X) → ((k : ℕ) → from ≤ k → q k ≡ p k) → spread q from n xs ≡ spread p from n xs
spread_same p q from zero xs same = refl
spread_same {X} p q from (suc n) [] same = ap {A = List (Option X)} (λ rest. None ∷ rest) (spread_same p q (from + 1) n [] (λ k above. same k (omega arith)))
spread_same {X} p q from (suc n) (x ∷ xs) same =
    elim (cases_Bool (p from)) [
      | inl is ↦ has_first q from n x xs (same from (omega arith) ∙ is) ∙ ap {A = List (Option X)} (λ rest. Some x ∷ rest) (spread_same p q (from + 1) n xs (λ k above. same k (omega arith))) ∙ sym (has_first p from n x xs is)
      | inr is ↦ no_first q from n (x ∷ xs) (same from (omega arith) ∙ is) ∙ ap {A = List (Option X)} (λ rest. None ∷ rest) (spread_same p q (from + 1) n (x ∷ xs) (λ k above. same k (omega arith))) ∙ sym (no_first p from n (x ∷ xs) is)
    ]

-- an item is exchanged
spread_set : {X : Type 0} (p : ℕ → Bool) (from n i at : ℕ) (xs : List X) (y : X) → i < n → p (from + i) ≡ true → at ≡ count_of p from i → at < length xs
    → spread p from n (set xs at y) ≡ set (spread p from n xs) i (Some y)
spread_set p from zero i at xs y below is place less = absurd (omega arith)
spread_set p from (suc n) i at [] y below is place less = absurd (omega arith)
spread_set p from (suc n) zero at (x ∷ xs) y below is place less =
    let none : at ≡ 0 = omega (arith, count-zero p from) in rw (none, first_is p from true is) refl
spread_set {X} p from (suc n) (suc i) at (x ∷ xs) y below is place less =
    elim (cases_Bool (p from)) [
      | inl here ↦ let more : at ≡ suc (count_of p (from + 1) i) = omega (arith, count_true p from i here) in
          rw (more, here) (ap {A = List (Option X)} (λ rest. Some x ∷ rest) (spread_set p (from + 1) n i (count_of p (from + 1) i) xs y (omega arith) (next_is p from i true is) refl (omega arith)))
      | inr here ↦ no_first p from n (set (x ∷ xs) at y) here
          ∙ ap {A = List (Option X)} (λ rest. None ∷ rest) (spread_set p (from + 1) n i at (x ∷ xs) y (omega arith) (next_is p from i true is) (omega (arith, count_false p from i here)) less)
          ∙ ap {A = List (Option X)} (λ all. set all (suc i) (Some y)) (sym (no_first p from n (x ∷ xs) here))
    ]

-- an item comes in
spread_added : {X : Type 0} (p q : ℕ → Bool) (from n i at : ℕ) (xs : List X) (y : X) → i < n → p (from + i) ≡ false → q (from + i) ≡ true → ((k : ℕ) → k ≢ from + i → q k ≡ p k) → at ≡ count_of p from i → at ≤ length xs
    → spread q from n (insert xs at y) ≡ set (spread p from n xs) i (Some y)
spread_added p q from zero i at xs y below was is others place less = absurd (omega arith)
spread_added {X} p q from (suc n) zero at xs y below was is others place less =
    let none : at ≡ 0 = omega (arith, count-zero p from) in
    rw none (
    has_first q from n y xs (first_is q from true is)
    ∙ ap {A = List (Option X)} (λ rest. Some y ∷ rest) (spread_same p q (from + 1) n xs (λ k above. others k (λ same. absurd (omega arith))))
    ∙ ap {A = List (Option X)} (λ all. set all zero (Some y)) (sym (no_first p from n xs (first_is p from false was)))
    )
spread_added {X} p q from (suc n) (suc i) at [] y below was is others place less =
    elim (cases_Bool (p from)) [
      | inl here ↦ absurd (omega (arith, count_true p from i here))
      | inr here ↦ no_first q from n (insert [] at y) (others from (λ same. absurd (omega arith)) ∙ here)
          ∙ ap {A = List (Option X)} (λ rest. None ∷ rest) (spread_added p q (from + 1) n i at [] y (omega arith) (next_is p from i false was) (next_is q from i true is) (λ k apart. others k (λ same. apart (omega arith))) (omega (arith, count_false p from i here)) less)
          ∙ ap {A = List (Option X)} (λ all. set all (suc i) (Some y)) (sym (no_first p from n [] here))
    ]
spread_added {X} p q from (suc n) (suc i) at (x ∷ xs) y below was is others place less =
    elim (cases_Bool (p from)) [
      | inl here ↦ let more : at ≡ suc (count_of p (from + 1) i) = omega (arith, count_true p from i here) in
          rw more (
          has_first q from n x (insert xs (count_of p (from + 1) i) y) (others from (λ same. absurd (omega arith)) ∙ here)
          ∙ ap {A = List (Option X)} (λ rest. Some x ∷ rest) (spread_added p q (from + 1) n i (count_of p (from + 1) i) xs y (omega arith) (next_is p from i false was) (next_is q from i true is) (λ k apart. others k (λ same. apart (omega arith))) refl (omega arith))
          ∙ ap {A = List (Option X)} (λ all. set all (suc i) (Some y)) (sym (has_first p from n x xs here))
          )
      | inr here ↦ no_first q from n (insert (x ∷ xs) at y) (others from (λ same. absurd (omega arith)) ∙ here)
          ∙ ap {A = List (Option X)} (λ rest. None ∷ rest) (spread_added p q (from + 1) n i at (x ∷ xs) y (omega arith) (next_is p from i false was) (next_is q from i true is) (λ k apart. others k (λ same. apart (omega arith))) (omega (arith, count_false p from i here)) less)
          ∙ ap {A = List (Option X)} (λ all. set all (suc i) (Some y)) (sym (no_first p from n (x ∷ xs) here))
    ]

-- an item goes
spread_removed : {X : Type 0} (p q : ℕ → Bool) (from n i at : ℕ) (xs : List X) → i < n → p (from + i) ≡ true → q (from + i) ≡ false → ((k : ℕ) → k ≢ from + i → q k ≡ p k) → at ≡ count_of p from i → at < length xs
    → spread q from n (remove xs at) ≡ set (spread p from n xs) i None
spread_removed p q from zero i at xs below was is others place less = absurd (omega arith)
spread_removed p q from (suc n) i at [] below was is others place less = absurd (omega arith)
spread_removed {X} p q from (suc n) zero at (x ∷ xs) below was is others place less =
    let none : at ≡ 0 = omega (arith, count-zero p from) in
    rw none (
    no_first q from n xs (first_is q from false is)
    ∙ ap {A = List (Option X)} (λ rest. None ∷ rest) (spread_same p q (from + 1) n xs (λ k above. others k (λ same. absurd (omega arith))))
    ∙ ap {A = List (Option X)} (λ all. set all zero None) (sym (has_first p from n x xs (first_is p from true was)))
    )
spread_removed {X} p q from (suc n) (suc i) at (x ∷ xs) below was is others place less =
    elim (cases_Bool (p from)) [
      | inl here ↦ let more : at ≡ suc (count_of p (from + 1) i) = omega (arith, count_true p from i here) in
          rw more (
          has_first q from n x (remove xs (count_of p (from + 1) i)) (others from (λ same. absurd (omega arith)) ∙ here)
          ∙ ap {A = List (Option X)} (λ rest. Some x ∷ rest) (spread_removed p q (from + 1) n i (count_of p (from + 1) i) xs (omega arith) (next_is p from i true was) (next_is q from i false is) (λ k apart. others k (λ same. apart (omega arith))) refl (omega arith))
          ∙ ap {A = List (Option X)} (λ all. set all (suc i) None) (sym (has_first p from n x xs here))
          )
      | inr here ↦ no_first q from n (remove (x ∷ xs) at) (others from (λ same. absurd (omega arith)) ∙ here)
          ∙ ap {A = List (Option X)} (λ rest. None ∷ rest) (spread_removed p q (from + 1) n i at (x ∷ xs) (omega arith) (next_is p from i true was) (next_is q from i false is) (λ k apart. others k (λ same. apart (omega arith))) (omega (arith, count_false p from i here)) less)
          ∙ ap {A = List (Option X)} (λ all. set all (suc i) None) (sym (no_first p from n (x ∷ xs) here))
    ]

-- 256 places
module _ {X : Type 0} where
  pub empty_places : (marks : List ℕ) → ◌≡◌ {A = List (Option X)} (in_places marks []) (replicate 256 None)
  unfolding in_places
  empty_places marks = spread_empty (is_set marks) 0 256

  pub places-length : (marks : List ℕ) (xs : List X) → length (in_places marks xs) ≡ 256
  unfolding in_places
  places-length marks xs = spread-length (is_set marks) 0 256 xs

  pub places_taken : (marks : List ℕ) (xs : List X) → length xs ≡ count_of (is_set marks) 0 256 → length (filter is_some (in_places marks xs)) ≡ length xs
  unfolding in_places
  places_taken marks xs all = spread_taken (is_set marks) 0 256 xs all

  pub place_none : (marks : List ℕ) (xs : List X) (i : ℕ) → i < 256 → is_set marks i ≡ false → get_or (in_places marks xs) i None ≡ None
  unfolding in_places
  place_none marks xs i below is = spread_none (is_set marks) 0 256 i xs below (from_zero (is_set marks) i false is)

  pub place_some : (marks : List ℕ) (xs : List X) (i at : ℕ) (d : X) → i < 256 → is_set marks i ≡ true → length xs ≡ count_of (is_set marks) 0 256 → at ≡ count_of (is_set marks) 0 i
      → get_or (in_places marks xs) i None ≡ Some (get_or xs at d)
  unfolding in_places
  place_some marks xs i at d below is all place =
      let there : is_set marks (0 + i) ≡ true = from_zero (is_set marks) i true is in
      spread_some (is_set marks) 0 256 i at xs d below there place (omega (arith, all, place, count_before (is_set marks) 0 256 i below there))

  pub place_set : (marks : List ℕ) (xs : List X) (i at : ℕ) (y : X) → i < 256 → is_set marks i ≡ true → length xs ≡ count_of (is_set marks) 0 256 → at ≡ count_of (is_set marks) 0 i
      → in_places marks (set xs at y) ≡ set (in_places marks xs) i (Some y)
  unfolding in_places
  place_set marks xs i at y below is all place =
      let there : is_set marks (0 + i) ≡ true = from_zero (is_set marks) i true is in
      spread_set (is_set marks) 0 256 i at xs y below there place (omega (arith, all, place, count_before (is_set marks) 0 256 i below there))

  pub place_added : (marks new : List ℕ) (xs : List X) (i at : ℕ) (y : X) → i < 256 → is_set marks i ≡ false → is_set new i ≡ true → ((k : ℕ) → k ≢ i → is_set new k ≡ is_set marks k) → length xs ≡ count_of (is_set marks) 0 256 → at ≡ count_of (is_set marks) 0 i
      → in_places new (insert xs at y) ≡ set (in_places marks xs) i (Some y)
  unfolding in_places
  place_added marks new xs i at y below was is others all place =
      spread_added (is_set marks) (is_set new) 0 256 i at xs y below (from_zero (is_set marks) i false was) (from_zero (is_set new) i true is)
      (λ k apart. others k (λ same. apart (omega arith))) place (omega (arith, all, place, count_upto (is_set marks) 0 256 i (omega arith)))

  pub place_removed : (marks new : List ℕ) (xs : List X) (i at : ℕ) → i < 256 → is_set marks i ≡ true → is_set new i ≡ false → ((k : ℕ) → k ≢ i → is_set new k ≡ is_set marks k) → length xs ≡ count_of (is_set marks) 0 256 → at ≡ count_of (is_set marks) 0 i
      → in_places new (remove xs at) ≡ set (in_places marks xs) i None
  unfolding in_places
  place_removed marks new xs i at below was is others all place =
      let there : is_set marks (0 + i) ≡ true = from_zero (is_set marks) i true was in
      spread_removed (is_set marks) (is_set new) 0 256 i at xs below there (from_zero (is_set new) i false is)
      (λ k apart. others k (λ same. apart (omega arith))) place (omega (arith, all, place, count_before (is_set marks) 0 256 i below there))

  -- what a place has says of its bit
  pub place_absent : (marks : List ℕ) (xs : List X) (i : ℕ) → i < 256 → length xs ≡ count_of (is_set marks) 0 256 → get_or (in_places marks xs) i None ≡ None → is_set marks i ≡ false
  place_absent marks [] i below all is =
      elim (cases_Bool (is_set marks i)) [
        | inl there ↦ let some : 0 < count_of (is_set marks) 0 256 = omega (arith, count_before (is_set marks) 0 256 i below (from_zero (is_set marks) i true there)) in absurd (omega (arith, some, all))
        | inr none ↦ none
      ]
  place_absent marks (x ∷ xs) i below all is =
      elim (cases_Bool (is_set marks i)) [
        | inl there ↦ let bad : false ≡ true = ap is_some (sym is) ∙ ap is_some (place_some marks (x ∷ xs) i (count_of (is_set marks) 0 i) x below there all refl) in absurd (cc)
        | inr none ↦ none
      ]

  -- nothing in the place of nothing
  pub set_none : (all : List (Option X)) (i : ℕ) → get_or all i None ≡ None → set all i None ≡ all
  set_none all i none = ap (λ (it : Option X). set all i it) (sym none) ∙ set-get_or all i None

-- how many items are before one, and before a place
pub place_below : (marks : List ℕ) (i n at : ℕ) → i < 256 → is_set marks i ≡ true → n ≡ count_of (is_set marks) 0 256 → at ≡ count_of (is_set marks) 0 i → at < n
place_below marks i n at below is all place = omega (arith, all, place, count_before (is_set marks) 0 256 i below (from_zero (is_set marks) i true is))

pub place_taken : {X : Type 0} (marks : List ℕ) (xs : List X) (i : ℕ) → i < 256 → is_set marks i ≡ true → length xs ≡ count_of (is_set marks) 0 256 → IsSome (get_or (in_places marks xs) i None)
place_taken marks [] i below is all = absurd (omega (arith, place_below marks i 0 (count_of (is_set marks) 0 i) below is all refl))
place_taken {X} marks (x ∷ xs) i below is all = subst (λ (o : Option X). IsSome o) (sym (place_some marks (x ∷ xs) i (count_of (is_set marks) 0 i) x below is all refl)) refl

-- where there is something in a place, its bit says so
pub place_there : {X : Type 0} (marks : List ℕ) (xs : List X) (i : ℕ) → i < 256 → IsSome (get_or (in_places marks xs) i None) → is_set marks i ≡ true
place_there {X} marks xs i below some =
    elim (cases_Bool (is_set marks i)) [
      | inl there ↦ there
      | inr none ↦ let bad : false ≡ true = subst (λ (o : Option X). IsSome o) (place_none marks xs i below none) some in absurd (cc)
    ]

-- what is in places once an item has changed where it lies
module _ {X : Type 0} (marks : List ℕ) (xs : List X) (i at : ℕ) (old : X) (below : i < 256) (there : is_set marks i ≡ true)
    (all : length xs ≡ count_of (is_set marks) 0 256) (counted : at ≡ count_of (is_set marks) 0 i) (was : old ≡ get_or xs at old) where
  pub item_found : get_or (in_places marks xs) i None ≡ Some old
  item_found = place_some marks xs i at old below there all counted ∙ ap {B = Option X} (λ (x : X). Some x) (sym was)

  pub item_changed : (new : X) → get_or (in_places marks (set xs at new)) i None ≡ Some new
  item_changed new =
      ap (λ (row : List (Option X)). get_or row i None) (place_set marks xs i at new below there all counted)
      ∙ get_or-set_same (in_places marks xs) i (Some new) None (omega (arith, below, places-length marks xs))

  pub items_beside : (new : X) (q : ℕ) → q ≢ i → get_or (in_places marks (set xs at new)) q None ≡ get_or (in_places marks xs) q None
  items_beside new q apart =
      ap (λ (row : List (Option X)). get_or row q None) (place_set marks xs i at new below there all counted)
      ∙ get_or-set_other (in_places marks xs) i q (Some new) None apart

  pub item_put_back : (new : X) → new ≡ old → in_places marks (set xs at new) ≡ in_places marks xs
  item_put_back new same =
      ap (λ (x : X). in_places marks (set xs at x)) (same ∙ was) ∙ ap (λ (items : List X). in_places marks items) (set-get_or xs at old)

-- what a fact says of what is there, or two
pub some_so : {X : Type 0} (o : Option X) (P Q : X → Type 0) → ((x : X) → P x → Q x) → IfSome o P → IfSome o Q
some_so None P Q so p = tt
some_so (Some x) P Q so p = so x p

pub some_both : {X : Type 0} (o : Option X) (P Q R : X → Type 0) → ((x : X) → P x → Q x → R x) → IfSome o P → IfSome o Q → IfSome o R
some_both None P Q R so p q = tt
some_both (Some x) P Q R so p q = so x p q

pub place_upto : (marks : List ℕ) (i n at : ℕ) → i < 256 → n ≡ count_of (is_set marks) 0 256 → at ≡ count_of (is_set marks) 0 i → at ≤ n
place_upto marks i n at below all place = omega (arith, all, place, count_upto (is_set marks) 0 256 i (omega arith))

-- how many there are once one came, or went
pub marks_added : (marks new : List ℕ) (i n : ℕ) → i < 256 → is_set marks i ≡ false → is_set new i ≡ true → ((k : ℕ) → k ≢ i → is_set new k ≡ is_set marks k) → n ≡ count_of (is_set marks) 0 256
    → n + 1 ≡ count_of (is_set new) 0 256
marks_added marks new i n below was is others all =
    omega (arith, all, count_added (is_set marks) (is_set new) 0 256 i below (from_zero (is_set marks) i false was) (from_zero (is_set new) i true is) (λ k apart. others k (λ same. apart (omega arith))))

pub marks_removed : (marks new : List ℕ) (i n m : ℕ) → i < 256 → is_set marks i ≡ true → is_set new i ≡ false → ((k : ℕ) → k ≢ i → is_set new k ≡ is_set marks k) → n ≡ count_of (is_set marks) 0 256
    → m + 1 ≡ n → m ≡ count_of (is_set new) 0 256
marks_removed marks new i n m below was is others all less =
    omega (arith, all, less, count_added (is_set new) (is_set marks) 0 256 i below (from_zero (is_set new) i false is) (from_zero (is_set marks) i true was) (λ k apart. sym (others k (λ same. apart (omega arith)))))

-- where all pass, each does, and as many as there are before it
pub all_pass : (p : ℕ → Bool) (n i : ℕ) → i < n → count_of p 0 n ≡ n → p i ≡ true
all_pass p n i below all =
    elim (cases_Bool (p i)) [
      | inl is ↦ is
      | inr is ↦
          let rest : n - i ≡ suc (n - suc i) = omega arith in
          let none : count_of p i (n - i) ≡ count_of p (i + 1) (n - suc i) = ap (λ (m : ℕ). count_of p i m) rest ∙ count_false p i (n - suc i) is in
          absurd (omega (arith, all, none, count-append p 0 i (n - i) n i (omega arith) (omega arith), count_le p 0 i, count_le p (i + 1) (n - suc i)))
    ]

pub all_before : (p : ℕ → Bool) (n i : ℕ) → i < n → count_of p 0 n ≡ n → i ≡ count_of p 0 i
all_before p n i below all =
    omega (arith, all, count-append p 0 i (n - i) n i (omega arith) (omega arith), count_le p 0 i, count_le p i (n - i))
