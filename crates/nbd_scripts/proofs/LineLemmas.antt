-- A text's first line, and what stands behind it.
use Rattle.std.proofs.Common.{◌≡◌, ℕ, zero, suc, ◌+◌, ◌-◌, ◌<◌, ◌≤◌, ◌==◌, nat_lt, Bool, true, false, List, [], ◌∷◌, ◌++◌, length, take, drop, Some, None, cond, refl, ap, sym, ◌∙◌, arith, add_comm, add-one, position, length-drop}
use Rattle.std.proofs.lemmas.List.{take_all, drop_all, length_push, append_assoc}
use Rattle.std.proofs.lemmas.Bool.Decides.{nat_tests}
use Rattle.std.specs.List.{before_first, after_first, position_or_len}
use Rattle.nbd_scripts.specs.Lines.{is_feed, lines_in, behind, Begins}

-- ---- a byte's place

-- the first place, where there is one
pub place_some : (p : ℕ → Bool) (xs : List ℕ) (at : ℕ) → position p xs ≡ Some at → (position_or_len p xs ≡ at) × (at < length xs)
place_some p xs at is = chosen (nat_lt (position_or_len p xs) (length xs)) refl is
  where
    chosen : (within : Bool) → nat_lt (position_or_len p xs) (length xs) ≡ within → cond within (Some (position_or_len p xs)) None ≡ Some at
        → (position_or_len p xs ≡ at) × (at < length xs)
    chosen true within same = let here : position_or_len p xs ≡ at = cc in (here, grind (arith, nat_tests))
    chosen false past none = cc

pub place_none : (p : ℕ → Bool) (xs : List ℕ) → position p xs ≡ None → length xs ≤ position_or_len p xs
place_none p xs is = chosen (nat_lt (position_or_len p xs) (length xs)) refl is
  where
    chosen : (within : Bool) → nat_lt (position_or_len p xs) (length xs) ≡ within → cond within (Some (position_or_len p xs)) None ≡ None
        → length xs ≤ position_or_len p xs
    chosen true within some = cc
    chosen false past none = grind (arith, nat_tests)

pub before_place : (p : ℕ → Bool) (xs : List ℕ) (at : ℕ) → position p xs ≡ Some at → take at xs ≡ before_first p xs
before_place p xs at is = ap (λ (n : ℕ). take n xs) (sym (place_some p xs at is).0)

pub after_place : (p : ℕ → Bool) (xs : List ℕ) (at : ℕ) → position p xs ≡ Some at → take (length xs - (at + 1)) (drop (at + 1) xs) ≡ after_first p xs
after_place p xs at is =
    let short : length (drop (at + 1) xs) ≤ length xs - (at + 1) = omega (arith, length-drop (at + 1) xs) in
    take_all (length xs - (at + 1)) (drop (at + 1) xs) short ∙ ap (λ (n : ℕ). drop (n + 1) xs) (sym (place_some p xs at is).0)

pub before_no_place : (p : ℕ → Bool) (xs : List ℕ) → position p xs ≡ None → xs ≡ before_first p xs
before_no_place p xs is = sym (take_all (position_or_len p xs) xs (place_none p xs is))

pub after_no_place : (p : ℕ → Bool) (xs : List ℕ) → position p xs ≡ None → after_first p xs ≡ []
after_no_place p xs is = let past : length xs ≤ position_or_len p xs = place_none p xs is in drop_all (position_or_len p xs + 1) xs (omega arith)

-- ---- lines

suc_take : (n byte : ℕ) (more : List ℕ) → take (1 + n) (byte ∷ more) ≡ byte ∷ take n more
suc_take n byte more = rw (add_comm 1 n, add-one) refl

suc_drop : (n byte : ℕ) (more : List ℕ) → drop (1 + n + 1) (byte ∷ more) ≡ drop (n + 1) more
suc_drop n byte more = let same : 1 + n + 1 ≡ suc (n + 1) = omega arith in rw same refl

-- a line feed in front
feed_in_front : (byte : ℕ) (more : List ℕ) → is_feed byte ≡ true → lines_in (byte ∷ more) ≡ before_first is_feed (byte ∷ more) ∷ lines_in (after_first is_feed (byte ∷ more))
unfolding lines_in
feed_in_front byte more is = rw is refl

-- another byte in front
other_in_front : (byte : ℕ) (more : List ℕ) → is_feed byte ≡ false → lines_in more ≡ before_first is_feed more ∷ lines_in (after_first is_feed more)
    → lines_in (byte ∷ more) ≡ before_first is_feed (byte ∷ more) ∷ lines_in (after_first is_feed (byte ∷ more))
unfolding lines_in
other_in_front byte more is rest =
    let n = position_or_len is_feed more in
    rw (is, rest, suc_take n byte more, suc_drop n byte more) refl

last_in_front : (byte : ℕ) → is_feed byte ≡ false → lines_in (byte ∷ []) ≡ before_first is_feed (byte ∷ []) ∷ lines_in (after_first is_feed (byte ∷ []))
unfolding lines_in
last_in_front byte is = rw is refl

-- a text that isn't empty is its first line and the lines behind it
pub lines_cut : (text : List ℕ) → 0 < length text → lines_in text ≡ before_first is_feed text ∷ lines_in (after_first is_feed text)
lines_cut [] some = absurd (omega arith)
lines_cut (byte ∷ []) some = chosen (is_feed byte) refl
  where
    chosen : (is : Bool) → is_feed byte ≡ is → lines_in (byte ∷ []) ≡ before_first is_feed (byte ∷ []) ∷ lines_in (after_first is_feed (byte ∷ []))
    chosen true is = feed_in_front byte [] is
    chosen false is = last_in_front byte is
lines_cut (byte ∷ next ∷ more) some = chosen (is_feed byte) refl (lines_cut (next ∷ more) (grind arith))
  where
    chosen : (is : Bool) → is_feed byte ≡ is → lines_in (next ∷ more) ≡ before_first is_feed (next ∷ more) ∷ lines_in (after_first is_feed (next ∷ more))
        → lines_in (byte ∷ next ∷ more) ≡ before_first is_feed (byte ∷ next ∷ more) ∷ lines_in (after_first is_feed (byte ∷ next ∷ more))
    chosen true is rest = feed_in_front byte (next ∷ more) is
    chosen false is rest = other_in_front byte (next ∷ more) is rest

pub lines_none : (text : List ℕ) → length text ≡ 0 → lines_in text ≡ []
unfolding lines_in
lines_none [] none = refl
lines_none (byte ∷ more) none = absurd (grind arith)

pub nothing_left : (text : List ℕ) → (length text == 0) ≡ true → length text ≡ 0
nothing_left [] is = refl
nothing_left (byte ∷ more) is = absurd (grind (arith, nat_tests))

-- one line more
pub behind_more : (count : ℕ) (text : List ℕ) → behind (count + 1) text ≡ after_first is_feed (behind count text)
behind_more zero text = refl
behind_more (suc count) text =
    let same : suc count + 1 ≡ suc (count + 1) = omega arith in
    ap (λ (n : ℕ). behind n text) same ∙ behind_more count (after_first is_feed text)

-- ---- a text's lines, one after the other

-- the next line, and what stands behind it
pub record Cuts (rest line after : List ℕ) : Type 0 where
  pub some : 0 < length rest
  pub is_line : line ≡ before_first is_feed rest
  pub is_after : after ≡ after_first is_feed rest

lines_are : (rest line after : List ℕ) → Cuts rest line after → lines_in rest ≡ line ∷ lines_in after
lines_are rest line after cuts =
    lines_cut rest cuts.some ∙ ap (λ (l : List ℕ). l ∷ lines_in (after_first is_feed rest)) (sym cuts.is_line) ∙ ap (λ (l : List ℕ). line ∷ lines_in l) (sym cuts.is_after)

pub begins_first : (text : List ℕ) → Begins text [] text
begins_first text = record { lines = refl; is_rest = refl }

pub lines_next : (text : List ℕ) (front : List (List ℕ)) (rest line after : List ℕ) → Begins text front rest → Cuts rest line after → lines_in text ≡ front ++ line ∷ lines_in after
lines_next text front rest line after so cuts = so.lines ∙ ap (λ (l : List (List ℕ)). front ++ l) (lines_are rest line after cuts)

pub begins_more : (text : List ℕ) (front : List (List ℕ)) (rest line after : List ℕ) → Begins text front rest → Cuts rest line after → Begins text (front ++ line ∷ []) after
begins_more text front rest line after so cuts = record {
  lines = lines_next text front rest line after so cuts ∙ sym (append_assoc front (line ∷ []) (lines_in after));
  is_rest =
      cuts.is_after ∙ ap (after_first is_feed) so.is_rest ∙ sym (behind_more (length front) text)
      ∙ ap (λ (n : ℕ). behind n text) (sym (length_push front line));
}
