-- Pages in a row: the bytes of a range that lies in one page, and the row after a write to one page.
use Rattle.std.proofs.Common.{◌≡◌, ◌≢◌, ℕ, zero, suc, ◌+◌, ◌-◌, ◌*◌, ◌/◌, ◌%◌, ◌<◌, ◌≤◌, inl, inr, List, [], ◌∷◌, ◌++◌, length, drop, get_or, refl, sym, ap, ◌∙◌, arith, rules, length-append, length-drop}
use Rattle.std.specs.List.{concat}
use Rattle.std.proofs.lemmas.Bool.{cases_lt}
use Rattle.std.proofs.lemmas.List.{places, same_lists, append-nil}
use Rattle.std.proofs.lemmas.List.Folds.{concat-append}
use Rattle.payload.specs.Bytes.{range_of, overwritten}
use Rattle.payload.proofs.BytesLemmas.{length-range_of}
use Rattle.export_store.specs.Pages.{in_a_row}

-- pages of which each has all its bytes
abbrev pub AreWhole : (ℕ → List ℕ) → Type 0
AreWhole page = (number : ℕ) → length (page number) ≡ 4096

pub length-in_a_row : (page : ℕ → List ℕ) → AreWhole page → (count : ℕ) → length (in_a_row page count) ≡ 4096 * count
length-in_a_row page whole zero = refl
length-in_a_row page whole (suc count) = omega (arith, length-append (in_a_row page count) (page count), length-in_a_row page whole count, whole count)

-- a range in the first of two lists, and in the second
range_of-front : (front back : List ℕ) (at n : ℕ) → at + n ≤ length front → range_of (front ++ back) at n ≡ range_of front at n
range_of-front front back at n within = same_lists _ _ (search (rules, places)) (λ k d h. grind (arith, places))

range_of-back : (front back : List ℕ) (start at n : ℕ) → length front ≡ start → range_of (front ++ back) (start + at) n ≡ range_of back at n
range_of-back front back start at n is = same_lists _ _ (search (rules, places)) (λ k d h. grind (arith, places))

overwritten-front : (front back bytes : List ℕ) (at : ℕ) → at + length bytes ≤ length front → overwritten (front ++ back) at (length bytes) bytes ≡ overwritten front at (length bytes) bytes ++ back
overwritten-front front back bytes at within = same_lists _ _ (search (rules, places)) (λ k d h. grind (arith, places))

overwritten-back : (front back bytes : List ℕ) (start at : ℕ) → length front ≡ start → at + length bytes ≤ length back
    → overwritten (front ++ back) (start + at) (length bytes) bytes ≡ front ++ overwritten back at (length bytes) bytes
overwritten-back front back bytes start at is within = same_lists _ _ (search (rules, places)) (λ k d h. grind (arith, places))

-- a range that lies in one page
pub range_of-in_a_row : (page : ℕ → List ℕ) → AreWhole page → (count number start n : ℕ) → number < count → start + n ≤ 4096
    → range_of (in_a_row page count) (4096 * number + start) n ≡ range_of (page number) start n
range_of-in_a_row page whole zero number start n below within = absurd (omega arith)
range_of-in_a_row page whole (suc count) number start n below within =
    let long = length-in_a_row page whole count in
    elim (cases_lt number count) [
      | inl lt ↦ range_of-front (in_a_row page count) (page count) (4096 * number + start) n (omega arith) ∙ range_of-in_a_row page whole count number start n lt within
      | inr le ↦ let last : count ≡ number = omega arith in
          rw last (range_of-back (in_a_row page number) (page number) (4096 * number) start n (rw (sym last) long))
    ]

-- rows of the same pages are the same
pub same_row : (old new : ℕ → List ℕ) (count : ℕ) → ((k : ℕ) → k < count → new k ≡ old k) → in_a_row new count ≡ in_a_row old count
same_row old new zero same = refl
same_row old new (suc count) same = rw (same_row old new count (λ k h. same k (omega arith)), same count (omega arith)) refl

-- a write that lies in one page
pub overwritten-in_a_row : (old new : ℕ → List ℕ) → AreWhole old → (count number start : ℕ) (bytes : List ℕ) → number < count → start + length bytes ≤ 4096
    → new number ≡ overwritten (old number) start (length bytes) bytes → ((k : ℕ) → k ≢ number → new k ≡ old k)
    → in_a_row new count ≡ overwritten (in_a_row old count) (4096 * number + start) (length bytes) bytes
overwritten-in_a_row old new whole zero number start bytes below within here others = absurd (omega arith)
overwritten-in_a_row old new whole (suc count) number start bytes below within here others =
    let long = length-in_a_row old whole count in
    elim (cases_lt number count) [
      | inl lt ↦ rw (others count (λ e. omega arith), overwritten-in_a_row old new whole count number start bytes lt within here others)
          (sym (overwritten-front (in_a_row old count) (old count) bytes (4096 * number + start) (omega arith)))
      | inr le ↦ let last : count ≡ number = omega arith in
          let front : in_a_row new count ≡ in_a_row old count = same_row old new count (λ k h. others k (λ e. omega arith)) in
          rw (front, last, here) (sym (overwritten-back (in_a_row old number) (old number) bytes (4096 * number) start (rw (sym last) long) (omega (arith, whole number))))
    ]

-- the bytes of pages in a row
pub at_row : (page : ℕ → List ℕ) → AreWhole page → (count k d : ℕ) → k < 4096 * count → get_or (in_a_row page count) k d ≡ get_or (page (k / 4096)) (k % 4096) d
at_row page whole zero k d below = absurd (omega arith)
at_row page whole (suc count) k d below =
    let long = length-in_a_row page whole count in
    elim (cases_lt k (4096 * count)) [
      | inl lt ↦ grind (arith, places, at_row page whole count k d lt)
      | inr le ↦ let here : k / 4096 ≡ count = omega arith in
          let place : k % 4096 ≡ k - 4096 * count = omega arith in
          rw (here, place) (grind (arith, places))
    ]

-- a range that lies in two rows of the same pages
range_of-rows : (page : ℕ → List ℕ) → AreWhole page → (m count at n : ℕ) → at + n ≤ 4096 * m → at + n ≤ 4096 * count → range_of (in_a_row page m) at n ≡ range_of (in_a_row page count) at n
range_of-rows page whole m count at n within below =
    let one = length-in_a_row page whole m in
    let other = length-in_a_row page whole count in
    same_lists _ _ (search (rules, places)) (λ k d h.
    let inside : k < n = omega (arith, length-range_of (in_a_row page m) at n (omega (arith, one)), h) in
    grind (arith, places, at_row page whole m (at + k) d (omega arith), at_row page whole count (at + k) d (omega arith)))

range_of-drop : (bytes : List ℕ) (from at n : ℕ) → range_of (drop from bytes) at n ≡ range_of bytes (from + at) n
range_of-drop bytes from at n = same_lists _ _ (search (rules, places)) (λ k d h. grind (arith, places))

drop-front : (front back : List ℕ) (from : ℕ) → from ≤ length front → drop from front ++ back ≡ drop from (front ++ back)
drop-front front back from within = same_lists _ _ (search (rules, places)) (λ k d h. grind (arith, places))

drop-all : (bytes : List ℕ) (from : ℕ) → from ≡ length bytes → [] ≡ drop from bytes
drop-all bytes from all = same_lists _ _ (search (rules, places)) (λ k d h. grind (arith, places))

-- The pages from one on of a row.
module _ (page : ℕ → List ℕ) (whole : AreWhole page) (first : ℕ) where
  pub no_pages : [] ≡ drop (4096 * first) (in_a_row page first)
  no_pages = drop-all (in_a_row page first) (4096 * first) (sym (length-in_a_row page whole first))

  pub one_page_more : (pages : List (List ℕ)) (number : ℕ) (next : List ℕ) → first ≤ number → concat pages ≡ drop (4096 * first) (in_a_row page number) → next ≡ page number
      → concat (pages ++ next ∷ []) ≡ drop (4096 * first) (in_a_row page (number + 1))
  one_page_more pages number next begun so is =
      let long = length-in_a_row page whole number in
      let more : suc number ≡ number + 1 = omega arith in
      concat-append pages (next ∷ [])
      ∙ ap (λ (bytes : List ℕ). concat pages ++ bytes) (append-nil next ∙ is)
      ∙ ap (λ (bytes : List ℕ). bytes ++ page number) so
      ∙ drop-front (in_a_row page number) (page number) (4096 * first) (omega arith)
      ∙ ap (λ (n : ℕ). drop (4096 * first) (in_a_row page n)) more

  pub length-pages : (end : ℕ) → length (drop (4096 * first) (in_a_row page end)) ≡ 4096 * end - 4096 * first
  length-pages end = omega (arith, length-drop (4096 * first) (in_a_row page end), length-in_a_row page whole end)

  pub range_of-pages : (end count at n : ℕ) → 4096 * first + at + n ≤ 4096 * end → 4096 * first + at + n ≤ 4096 * count
      → range_of (drop (4096 * first) (in_a_row page end)) at n ≡ range_of (in_a_row page count) (4096 * first + at) n
  range_of-pages end count at n within below =
      range_of-drop (in_a_row page end) (4096 * first) at n ∙ range_of-rows page whole end count (4096 * first + at) n within below
