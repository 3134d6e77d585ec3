-- How the heaps follow the tags.
use Rattle.std.proofs.Common.{◌≡◌, ℕ, zero, suc, ◌^◌, ◌++◌, take, ◌<◌, ◌≤◌, ℤ, pos, true, false, Option, Some, None, List, [], ◌∷◌, replicate, length, slice_index_or, set, map, refl, sym, ◌∙◌, ap, subst, arith, inl, inr}
use Rattle.std.specs.Prelude.{int_le}
use mathlib.Core.Logic.{⊎_elim}
use Rattle.std.proofs.lemmas.Int.{ints}
use Rattle.std.proofs.lemmas.List.{get_or-set_same, get_or-set_other, set-get_or, length-set, length-map, length-replicate, get_or-map, get_or-replicate, get_or_default, map-set, ext_get_or, take_at}
use Rattle.std.proofs.lemmas.List.Elements.{All-set, All-replicate}
use Rattle.tag_clock.specs.declared.Tags.{Tags}
use Rattle.nbd_base.specs.Range.{InRange, IsOptionInRange}
use Rattle.index_heap.specs.Keys.{key_less, keys_less, AllKeysInRange}
use Rattle.index_heap.proofs.Cases.{same_or}
use Rattle.eligibility.specs.Choice.{due_p, slot_key, slot_shifted, all_shifted, IsSlotInRange, AllInRange}
use Rattle.eligibility.specs.Indexed.{slot_r, slot_l, slot_p, IsHeld, IsSplit, AllLate, IsIndexed, held}

le_along : (a b c : ℤ) → int_le a b ≡ true → int_le b c ≡ true → int_le a c ≡ true
le_along a b c h k = grind (arith, ints)

pub moments_le : (a b : ℕ) → a ≤ b → int_le (pos a) (pos b) ≡ true
moments_le a b h = grind (arith, ints)

-- what is ready stays ready
held_later : (now later : ℤ) (slot : Option Tags) (t r : Option ℤ) → int_le now later ≡ true → IsHeld now slot t r → IsHeld later slot t r
held_later now later None t r le h = h
held_later now later (Some tags) t r le h = ⊎_elim (λ k. inl k) (λ k. inr (k.0, k.1, le_along tags.l now later k.2 le)) h

pub split_later : (now later : ℤ) (slots : List (Option Tags)) (ts rs : List (Option ℤ)) → int_le now later ≡ true → IsSplit now slots ts rs → IsSplit later slots ts rs
split_later now later slots ts rs le h = record {
  throttled_length = h.throttled_length;
  ready_length = h.ready_length;
  each = λ i l. held_later now later (slice_index_or slots i None) (slice_index_or ts i None) (slice_index_or rs i None) le (h.each i l);
}

-- one export changes
pub split_set : (now : ℤ) (slots : List (Option Tags)) (ts rs : List (Option ℤ)) (i : ℕ) (slot : Option Tags) (x y : Option ℤ) → i < length slots → IsHeld now slot x y → IsSplit now slots ts rs → IsSplit now (set slots i slot) (set ts i x) (set rs i y)
split_set now slots ts rs i slot x y il new h = record {
  throttled_length = simp length-set h.throttled_length;
  ready_length = simp length-set h.ready_length;
  each = λ j jl. same_or j i
      (λ e. rw (e, get_or-set_same slots i slot None il, get_or-set_same ts i x None (omega (arith, h.throttled_length, il)), get_or-set_same rs i y None (omega (arith, h.ready_length, il))) new)
      (λ n. rw (get_or-set_other slots i j slot None n, get_or-set_other ts i j x None n, get_or-set_other rs i j y None n) (h.each j (simp length-set at jl)));
}

-- a new first request is throttled at first
pub held_new : (now : ℤ) (slot : Option Tags) → IsHeld now slot (slot_l slot) None
held_new now None = (refl, refl)
held_new now (Some tags) = inl (refl, refl)

held_due : (now : ℤ) (slot : Option Tags) (t r : Option ℤ) (l : ℤ) → IsHeld now slot t r → t ≡ Some l → int_le l now ≡ true → IsHeld now slot None (slot_p slot)
held_due now None t r l h is le = (refl, refl)
held_due now (Some tags) t r l h is le = ⊎_elim
    (λ k. let same : Some tags.l ≡ Some l = sym k.0 ∙ is in let e : tags.l ≡ l = cc in inr (refl, refl, rw e le))
    (λ k. let no_way : None ≡ Some l = sym k.0 ∙ is in absurd (none_some l no_way))
    h
  where
    none_some : (l : ℤ) → None ≡ Some l → ⊥
    none_some l e = cc

-- one export moves to the ready
pub split_moved : (now : ℤ) (slots : List (Option Tags)) (ts rs : List (Option ℤ)) (i : ℕ) (l : ℤ) → i < length ts → slice_index_or ts i None ≡ Some l → int_le l now ≡ true → IsSplit now slots ts rs
    → IsSplit now slots (set ts i None) (set rs i (slot_p (slice_index_or slots i None)))
split_moved now slots ts rs i l il is le h =
    let inside : i < length slots = omega (arith, h.throttled_length, il) in
    subst (λ ss. IsSplit now ss (set ts i None) (set rs i (slot_p (slice_index_or slots i None)))) (set-get_or slots i None)
    (split_set now slots ts rs i (slice_index_or slots i None) None (slot_p (slice_index_or slots i None)) inside
    (held_due now (slice_index_or slots i None) (slice_index_or ts i None) (slice_index_or rs i None) l (h.each i inside) is le) h)

held_shift : (now d : ℤ) (slot : Option Tags) (t r : Option ℤ) → IsHeld now slot t r → IsHeld now (slot_shifted d slot) t (key_less d r)
held_shift now d None t r h = (h.0, ap (key_less d) h.1)
held_shift now d (Some tags) t r h = ⊎_elim (λ k. inl (k.0, ap (key_less d) k.1)) (λ k. inr (k.0, ap (key_less d) k.1, k.2)) h

-- all P tags fall
pub split_shift : (now d : ℤ) (slots : List (Option Tags)) (ts rs : List (Option ℤ)) → IsSplit now slots ts rs → IsSplit now (all_shifted d slots) ts (keys_less d rs)
split_shift now d slots ts rs h = record {
  throttled_length = simp length-map h.throttled_length;
  ready_length = simp length-map h.ready_length;
  each = λ i il.
      let inside : i < length slots = simp length-map at il in
      rw (get_or-map (slot_shifted d) slots i None None inside, get_or-map (key_less d) rs i None None (omega (arith, h.ready_length, inside)))
      (held_shift now d (slice_index_or slots i None) (slice_index_or ts i None) (slice_index_or rs i None) (h.each i inside));
}

r_shift : (d : ℤ) (slot : Option Tags) → slot_r (slot_shifted d slot) ≡ slot_r slot
r_shift d None = refl
r_shift d (Some tags) = refl

pub all_r_shift : (d : ℤ) (slots : List (Option Tags)) → map slot_r (all_shifted d slots) ≡ map slot_r slots
all_r_shift d [] = refl
all_r_shift d (slot ∷ slots) = rw (r_shift d slot, all_r_shift d slots) refl

held_range : (now : ℤ) (slot : Option Tags) (t r : Option ℤ) → IsHeld now slot t r → IsSlotInRange slot → IsOptionInRange r
held_range now None t r h all = rw h.1 tt
held_range now (Some tags) t r h all = ⊎_elim (λ k. rw k.1 tt) (λ k. rw k.1 all.2) h

pub split_range : (now : ℤ) (slots : List (Option Tags)) (ts rs : List (Option ℤ)) → IsSplit now slots ts rs → AllInRange slots → AllKeysInRange rs
split_range now slots ts rs h all = λ k d kl.
    let inside : k < length slots = omega (arith, h.ready_length, kl) in
    rw (get_or_default rs k d None kl) (held_range now (slice_index_or slots k None) (slice_index_or ts k None) (slice_index_or rs k None) (h.each k inside) (all k None inside))

pub r_range : (slot : Option Tags) → IsSlotInRange slot → IsOptionInRange (slot_r slot)
r_range None h = tt
r_range (Some tags) h = h.0

pub l_range : (slot : Option Tags) → IsSlotInRange slot → IsOptionInRange (slot_l slot)
l_range None h = tt
l_range (Some tags) h = h.1

pub p_range : (slot : Option Tags) → IsSlotInRange slot → IsOptionInRange (slot_p slot)
p_range None h = tt
p_range (Some tags) h = h.2

held_ready : (now : ℤ) (slot : Option Tags) (t r : Option ℤ) → IsHeld now slot t r → ((l : ℤ) → t ≡ Some l → int_le l now ≡ false) → r ≡ slot_key (due_p now) slot
held_ready now None t r h late = h.1
held_ready now (Some tags) t r h late = ⊎_elim (λ k. rw (late tags.l k.0) k.1) (λ k. rw k.2 k.1) h

-- once nothing throttled is due, the ready heap holds the P tags of all that are
pub ready_is : (now : ℤ) (slots : List (Option Tags)) (ts rs : List (Option ℤ)) → IsSplit now slots ts rs → AllLate now ts → rs ≡ map (slot_key (due_p now)) slots
ready_is now slots ts rs h late =
    ext_get_or None rs (map (slot_key (due_p now)) slots) (simp length-map h.ready_length) (λ i il.
    let inside : i < length slots = omega (arith, h.ready_length, il) in
    held_ready now (slice_index_or slots i None) (slice_index_or ts i None) (slice_index_or rs i None) (h.each i inside) (λ l e. late i l (omega (arith, h.throttled_length, inside)) e)
    ∙ sym (get_or-map (slot_key (due_p now)) slots i None None inside))

-- a key fewer
pub held_falls : (ks : List (Option ℤ)) (i : ℕ) (k : ℤ) → slice_index_or ks i None ≡ Some k → held (set ks i None) < held ks
held_falls [] i k e = cc
held_falls (None ∷ ks) zero k e = cc
held_falls (Some x ∷ ks) zero k e = omega arith
held_falls (None ∷ ks) (suc i) k e = held_falls ks i k e
held_falls (Some x ∷ ks) (suc i) k e = omega (arith, held_falls ks i k e)

pub split_new : (n : ℕ) (now : ℤ) → IsSplit now (replicate n None) (replicate n None) (replicate n None)
split_new n now = record {
  throttled_length = simp length-replicate;
  ready_length = simp length-replicate;
  each = λ i il.
      let inside : i < n = simp length-replicate at il in
      rw (get_or-replicate {A = Option Tags} n i None None inside, get_or-replicate {A = Option ℤ} n i None None inside) (refl, refl);
}

held_l_range : (now : ℤ) (slot : Option Tags) (t r : Option ℤ) → IsHeld now slot t r → IsSlotInRange slot → IsOptionInRange t
held_l_range now None t r h all = rw h.0 tt
held_l_range now (Some tags) t r h all = ⊎_elim (λ k. rw k.0 all.1) (λ k. rw k.0 tt) h

some_range : (t : Option ℤ) (l : ℤ) → t ≡ Some l → IsOptionInRange t → InRange l
some_range t l e h = let P : Option ℤ → Type 0 = λ z. IsOptionInRange z in subst P e h

pub split_l_range : (now : ℤ) (slots : List (Option Tags)) (ts rs : List (Option ℤ)) (i : ℕ) (l : ℤ) → IsSplit now slots ts rs → AllInRange slots → i < length ts → slice_index_or ts i None ≡ Some l → InRange l
split_l_range now slots ts rs i l h all il is =
    let inside : i < length slots = omega (arith, h.throttled_length, il) in
    some_range (slice_index_or ts i None) l is (held_l_range now (slice_index_or slots i None) (slice_index_or ts i None) (slice_index_or rs i None) (h.each i inside) (all i None inside))

pub indexed_set : (asked : ℕ) (slots : List (Option Tags)) (rs ts ps : List (Option ℤ)) (i : ℕ) (slot : Option Tags) → IsIndexed asked slots rs ts ps → i < length slots → IsSlotInRange slot
    → IsIndexed asked (set slots i slot) (set rs i (slot_r slot)) (set ts i (slot_l slot)) (set ps i None)
indexed_set asked slots rs ts ps i slot h il range = record {
  few = simp length-set h.few;
  in_range = All-set IsSlotInRange slots i slot range h.in_range;
  by_r = ap (λ (ks : List (Option ℤ)). set ks i (slot_r slot)) h.by_r ∙ sym (map-set slot_r slots i slot);
  split = split_set (pos asked) slots ts ps i slot (slot_l slot) None il (held_new (pos asked) slot) h.split;
}

pub indexed_shift : (asked : ℕ) (slots : List (Option Tags)) (rs ts ps : List (Option ℤ)) (d : ℤ) → IsIndexed asked slots rs ts ps → AllInRange (all_shifted d slots) → IsIndexed asked (all_shifted d slots) rs ts (keys_less d ps)
indexed_shift asked slots rs ts ps d h range = record {
  few = simp length-map h.few;
  in_range = range;
  by_r = h.by_r ∙ sym (all_r_shift d slots);
  split = split_shift (pos asked) d slots ts ps h.split;
}

pub shift_allowed : (asked : ℕ) (slots : List (Option Tags)) (rs ts ps : List (Option ℤ)) (d : ℤ) → IsIndexed asked slots rs ts ps → AllInRange (all_shifted d slots) → AllKeysInRange (keys_less d ps)
shift_allowed asked slots rs ts ps d h range = split_range (pos asked) (all_shifted d slots) ts (keys_less d ps) (split_shift (pos asked) d slots ts ps h.split) range

pub all_taken : (n : ℕ) (xs ys zs : List (Option Tags)) (d : ℤ) → ys ≡ all_shifted d xs → length xs ≡ n → take n (ys ++ zs) ≡ all_shifted d xs
all_taken n xs ys zs d e l = take_at ys zs n (ap length e ∙ simp length-map l) ∙ e

none_r : (n : ℕ) → replicate n None ≡ map slot_r (replicate n None)
none_r zero = refl
none_r (suc n) = ap (λ (ks : List (Option ℤ)). None ∷ ks) (none_r n)

pub indexed_new : (n : ℕ) → n < 2 ^ 32 → IsIndexed 0 (replicate n None) (replicate n None) (replicate n None) (replicate n None)
indexed_new n l = record {
  few = simp length-replicate l;
  in_range = All-replicate IsSlotInRange n None tt;
  by_r = none_r n;
  split = split_new n (pos 0);
}
