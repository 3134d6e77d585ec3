-- Types of information, two bytes each.
use Rattle.std.proofs.Common.{◌≡◌, ℕ, ◌+◌, ◌<◌, ◌≤◌, Bool, ◌||◌, ◌==◌, true, false, List, [], ◌∷◌, length, take, drop, refl, sym, ap, ◌∙◌, arith}
use Rattle.std.specs.Int.{w16, from_be_bytes}
use Rattle.std.proofs.lemmas.List.{drop-drop, length-drop}
use Rattle.std.proofs.lemmas.Bool.{eq-eqb, ne_eqb}
use Rattle.nbd_options.specs.Replies.{is_asked, numbers_of}

-- whether a type stands among these bytes
abbrev pub stands_in : ℕ → List ℕ → Bool
stands_in kind types = is_asked kind (numbers_of types)

first_of_two : (t : ℕ) (ys : List ℕ) → 2 ≤ length ys → stands_in t ys ≡ ((from_be_bytes w16 (take 2 ys) == t) || stands_in t (drop 2 ys))
first_of_two t [] le = absurd (omega (arith, le))
first_of_two t (a ∷ []) le = absurd (omega (arith, le))
first_of_two t (a ∷ b ∷ ys) le = refl

type_at : (t : ℕ) (xs : List ℕ) (at : ℕ) → at + 1 < length xs → stands_in t (drop at xs) ≡ ((from_be_bytes w16 (take 2 (drop at xs)) == t) || stands_in t (drop (at + 2) xs))
type_at t xs at lt =
    first_of_two t (drop at xs) (omega (arith, length-drop at xs, lt))
    ∙ ap (λ (ys : List ℕ). (from_be_bytes w16 (take 2 (drop at xs)) == t) || stands_in t ys) (drop-drop 2 at xs)

none_of : (t : ℕ) (ys : List ℕ) → length ys ≤ 1 → stands_in t ys ≡ false
none_of t [] le = refl
none_of t (a ∷ []) le = refl
none_of t (a ∷ b ∷ ys) le = absurd (omega (arith, le))

pub none_left : (t : ℕ) (xs : List ℕ) (at : ℕ) → length xs ≤ at + 1 → stands_in t (drop at xs) ≡ false
none_left t xs at le = none_of t (drop at xs) (omega (arith, length-drop at xs, le))

either_hit : (b c : Bool) → b ≡ true → true ≡ (b || c)
either_hit b c h = rw h refl

either_miss : (b c : Bool) → b ≡ false → (b || c) ≡ c
either_miss b c h = rw h refl

-- the type at this place is the one
pub hit : (t : ℕ) (xs : List ℕ) (at v : ℕ) → at + 1 < length xs → v ≡ from_be_bytes w16 (take 2 (drop at xs)) → v ≡ t → true ≡ stands_in t (drop at xs)
hit t xs at v lt is same = either_hit _ _ (eq-eqb _ _ (sym is ∙ same)) ∙ sym (type_at t xs at lt)

-- it is another one
pub miss : (t : ℕ) (xs : List ℕ) (at v : ℕ) → at + 1 < length xs → v ≡ from_be_bytes w16 (take 2 (drop at xs)) → (v ≡ t → ⊥) → stands_in t (drop at xs) ≡ stands_in t (drop (at + 2) xs)
miss t xs at v lt is other = type_at t xs at lt ∙ either_miss _ _ (ne_eqb _ _ (λ e. other (is ∙ e)))
