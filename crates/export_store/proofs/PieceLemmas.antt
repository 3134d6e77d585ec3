-- A page after a piece is written, and the image after each page is.
use Rattle.std.proofs.Common.{◌≡◌, ◌≢◌, ℕ, zero, suc, ◌+◌, ◌-◌, ◌*◌, ◌/◌, ◌%◌, ◌<◌, ◌≤◌, ◌&&◌, Bool, true, false, nat_le, nat_lt, if◌then◌else◌, inl, inr, List, [], ◌∷◌, ◌++◌, length, take, min, get_or, refl, sym, ap, ◌∙◌, arith, rules, length-append}
use Rattle.std.specs.Int.{div_ceil}
use Rattle.std.proofs.lemmas.Bool.{cases_lt, cases_eq}
use Rattle.std.proofs.lemmas.Bool.Decides.{nat_tests}
use Rattle.std.proofs.lemmas.List.{places, same_lists, length-take}
use Rattle.payload.specs.Bytes.{range_of, overwritten}
use Rattle.export_store.specs.Pages.{Pages, IsPaged, page_of, in_a_row, image_of, part_in, page_after, pages_after, has_byte_of}
use Rattle.payload.proofs.Overwriting.{overwritten-all, take-overwritten}
use Rattle.export_store.proofs.RangeLemmas.{byte_places}
use Rattle.export_store.proofs.PageLemmas.{AreWhole, length-in_a_row, at_row}

-- a part that ends with the piece
part_is : (piece : List ℕ) (from count : ℕ) → from ≤ length piece → range_of piece from (min (length piece - from) count) ≡ range_of piece from count
part_is piece from count within = same_lists _ _ (search (rules, places)) (λ k d h. grind (arith, places))

length-part : (offset : ℕ) (piece : List ℕ) (number : ℕ) → length (part_in offset piece number) ≡ min (4096 - (offset - 4096 * number)) (length piece - (4096 * number - offset))
length-part offset piece number = grind (arith, places)

-- a page that lies whole in the piece
pub page_whole : (offset : ℕ) (piece : List ℕ) (number : ℕ) (page : List ℕ) → length page ≡ 4096 → length (part_in offset piece number) ≡ 4096 → page_after offset piece number page ≡ part_in offset piece number
unfolding page_after
page_whole offset piece number page whole full =
    let start : offset - 4096 * number ≡ 0 = omega (arith, length-part offset piece number) in
    ap (λ (at : ℕ). overwritten page at (length (part_in offset piece number)) (part_in offset piece number)) start
    ∙ overwritten-all page (part_in offset piece number) (whole ∙ sym full)

-- a page that has no byte of it
pub untouched : (offset : ℕ) (piece : List ℕ) (number : ℕ) (page : List ℕ) → has_byte_of offset (length piece) number ≡ false → page_after offset piece number page ≡ page
unfolding page_after
untouched offset piece number page apart =
    let none : length (part_in offset piece number) ≡ 0 = grind (arith, nat_tests, length-part offset piece number) in
    same_lists _ _ (search (rules, places)) (λ k d h. grind (arith, places))

-- the bytes of a page that is written
at_page : (offset : ℕ) (piece : List ℕ) (number : ℕ) (page : List ℕ) (k d : ℕ) → length page ≡ 4096 → k < 4096
    → get_or (page_after offset piece number page) k d ≡ (if nat_le offset (4096 * number + k) && nat_lt (4096 * number + k) (offset + length piece) then get_or piece (4096 * number + k - offset) d else get_or page k d)
unfolding page_after
at_page offset piece number page k d whole below = grind (arith, places, nat_tests)

pub length-page_after : (offset : ℕ) (piece : List ℕ) (number : ℕ) (page : List ℕ) → length page ≡ 4096 → length (page_after offset piece number page) ≡ 4096
unfolding page_after
length-page_after offset piece number page whole = grind (arith, places, length-part offset piece number)

-- the bytes of pages in a row that are written
at_place : (offset : ℕ) (piece : List ℕ) (page : List ℕ) (k d : ℕ) → length page ≡ 4096
    → get_or (page_after offset piece (k / 4096) page) (k % 4096) d ≡ (if nat_le offset k && nat_lt k (offset + length piece) then get_or piece (k - offset) d else get_or page (k % 4096) d)
at_place offset piece page k d whole =
    let place : 4096 * (k / 4096) + k % 4096 ≡ k = omega arith in
    at_page offset piece (k / 4096) page (k % 4096) d whole (omega arith)
    ∙ ap (λ (p : ℕ). if nat_le offset p && nat_lt p (offset + length piece) then get_or piece (p - offset) d else get_or page (k % 4096) d) place

row_after : (old new : ℕ → List ℕ) → AreWhole old → (offset : ℕ) (piece : List ℕ) (count : ℕ) → offset + length piece ≤ 4096 * count
    → ((k : ℕ) → new k ≡ page_after offset piece k (old k)) → in_a_row new count ≡ overwritten (in_a_row old count) offset (length piece) piece
row_after old new is offset piece count within written =
    let will : AreWhole new = λ k. ap length (written k) ∙ length-page_after offset piece k (old k) (is k) in
    let was = length-in_a_row old is count in
    let long = length-in_a_row new will count in
    same_lists _ _ (search (rules, places)) (λ k d h.
    let below : k < 4096 * count = omega arith in
    at_row new will count k d below
    ∙ ap (λ (page : List ℕ). get_or page (k % 4096) d) (written (k / 4096))
    ∙ at_place offset piece (old (k / 4096)) k d (is (k / 4096))
    ∙ ap (λ (byte : ℕ). if nat_le offset k && nat_lt k (offset + length piece) then get_or piece (k - offset) d else byte) (sym (at_row old is count k d below))
    ∙ grind (arith, places, nat_tests))

-- the image after each page is written
pub image_after : (old new : Pages) (offset : ℕ) (piece : List ℕ) → IsPaged old → new.size ≡ old.size → offset + length piece ≤ length (image_of old)
    → ((k : ℕ) → page_of new k ≡ page_after offset piece k (page_of old k)) → image_of new ≡ overwritten (image_of old) offset (length piece) piece
unfolding image_of
image_after old new offset piece is size within written =
    let count : ℕ = old.size / 4096 + 1 in
    let row : List ℕ = in_a_row (page_of old) count in
    let long : length row ≡ 4096 * count = length-in_a_row (page_of old) is.whole count in
    let cut : length (take old.size row) ≡ min old.size (length row) = length-take old.size row in
    rw (size, row_after (page_of old) (page_of new) is.whole offset piece count (omega arith) written) (take-overwritten old.size row piece offset (omega arith) (omega arith))

-- What a page gets of the piece, as it is found.
module _ (offset : ℕ) (piece : List ℕ) (number begin start from end count : ℕ) (touched : has_byte_of offset (length piece) number ≡ true) (begins : begin ≡ number * 4096) (starts : start ≡ offset - begin)
    (comes : from ≡ begin - offset) (ends : end ≡ offset + length piece) (goes : count ≡ min (end - offset - from) (4096 - start)) where
  part_size : count ≡ min (length piece - (4096 * number - offset)) (4096 - (offset - 4096 * number))
  part_size = omega arith

  pub part_long : count ≡ length (part_in offset piece number)
  part_long = omega (arith, part_size, length-part offset piece number)

  part_found : range_of piece from count ≡ part_in offset piece number
  part_found =
      let inside = byte_places offset (length piece) number touched in
      let first : from ≡ 4096 * number - offset = omega arith in
      rw (first, part_size) (part_is piece (4096 * number - offset) (4096 - (offset - 4096 * number)) (omega (arith, inside.1)))

  pub page_changed : (page : List ℕ) → overwritten page start count (range_of piece from count) ≡ page_after offset piece number page
  unfolding page_after
  page_changed page =
      let part : List ℕ = part_in offset piece number in
      let here : start ≡ offset - 4096 * number = omega arith in
      ap (λ (bytes : List ℕ). overwritten page start count bytes) part_found
      ∙ ap (λ (n : ℕ). overwritten page start n part) part_long
      ∙ ap (λ (at : ℕ). overwritten page at (length part) part) here

  -- what stood in it doesn't matter where the piece covers it
  pub page_covered : count ≡ 4096 → (page other : List ℕ) → length page ≡ 4096 → length other ≡ 4096 → page_after offset piece number page ≡ page_after offset piece number other
  page_covered full page other whole all =
      let covered : length (part_in offset piece number) ≡ 4096 = sym part_long ∙ full in
      page_whole offset piece number page whole covered ∙ sym (page_whole offset piece number other all covered)

-- one more page that is ready
pub next_page : (page : ℕ → List ℕ) (offset : ℕ) (piece : List ℕ) (first number : ℕ) → first ≤ number
    → pages_after page offset piece first (number - first) ++ page_after offset piece number (page number) ∷ [] ≡ pages_after page offset piece first (number + 1 - first)
next_page page offset piece first number begun =
    let place : number ≡ first + (number - first) = omega arith in
    let next : suc (number - first) ≡ number + 1 - first = omega arith in
    ap (λ (k : ℕ). pages_after page offset piece first (number - first) ++ page_after offset piece k (page k) ∷ []) place
    ∙ ap (λ (n : ℕ). pages_after page offset piece first n) next

-- the last of pages that are ready, and those before it
snoc : (xs ys : List (List ℕ)) (x y : List ℕ) → xs ++ x ∷ [] ≡ ys ++ y ∷ [] → (xs ≡ ys) × (x ≡ y)
snoc [] [] x y same = (refl, cc)
snoc [] (z ∷ ys) x y same = let long : 1 ≡ length (z ∷ ys ++ y ∷ []) = ap length same in absurd (omega (arith, length-append ys (y ∷ [])))
snoc (z ∷ xs) [] x y same = let long : length (z ∷ xs ++ x ∷ []) ≡ 1 = ap length same in absurd (omega (arith, length-append xs (x ∷ [])))
snoc (w ∷ xs) (z ∷ ys) x y same =
    let front : w ≡ z = cc in
    let rest = snoc xs ys x y (cc) in
    (rw (front, rest.0) refl, rest.1)

pub length-pages_after : (page : ℕ → List ℕ) (offset : ℕ) (piece : List ℕ) (first count : ℕ) → length (pages_after page offset piece first count) ≡ count
length-pages_after page offset piece first zero = refl
length-pages_after page offset piece first (suc count) =
    omega (arith, length-append (pages_after page offset piece first count) (page_after offset piece (first + count) (page (first + count)) ∷ []), length-pages_after page offset piece first count)

-- what is left of them once the last was taken, which belongs to the page before an end
pub record IsTaken (page : ℕ → List ℕ) (offset : ℕ) (piece : List ℕ) (first end : ℕ) (rest : List (List ℕ)) (last : List ℕ) : Type 0 where
  pub some : first < end
  pub last_is : last ≡ page_after offset piece (end - 1) (page (end - 1))
  pub rest_is : rest ≡ pages_after page offset piece first (end - 1 - first)

taken : (page : ℕ → List ℕ) (offset : ℕ) (piece : List ℕ) (first count end : ℕ) (rest : List (List ℕ)) (last : List ℕ) → end ≡ first + count
    → rest ++ last ∷ [] ≡ pages_after page offset piece first count → IsTaken page offset piece first end rest last
taken page offset piece first zero end rest last ends all = let long : length (rest ++ last ∷ []) ≡ 0 = ap length all in absurd (omega (arith, length-append rest (last ∷ [])))
taken page offset piece first (suc count) end rest last ends all =
    let both = snoc rest (pages_after page offset piece first count) last (page_after offset piece (first + count) (page (first + count))) all in
    let number : first + count ≡ end - 1 = omega arith in
    let left : count ≡ end - 1 - first = omega arith in
    record {
      some = omega arith;
      last_is = both.1 ∙ ap (λ (k : ℕ). page_after offset piece k (page k)) number;
      rest_is = both.0 ∙ ap (λ (n : ℕ). pages_after page offset piece first n) left;
    }

pub take_last : (page : ℕ → List ℕ) (offset : ℕ) (piece : List ℕ) (first end : ℕ) (rest : List (List ℕ)) (last : List ℕ) → first ≤ end
    → rest ++ last ∷ [] ≡ pages_after page offset piece first (end - first) → IsTaken page offset piece first end rest last
take_last page offset piece first end rest last begun all = taken page offset piece first (end - first) end rest last (omega arith) all

-- a page beside the one that a range lies in
outside_one : (offset count k : ℕ) → offset % 4096 + count ≤ 4096 → k ≢ offset / 4096 → has_byte_of offset count k ≡ false
outside_one offset count k one apart =
    elim (cases_lt k (offset / 4096)) [
      | inl lt ↦ let above : 4096 * k + 4096 ≤ offset = omega arith in grind (arith, nat_tests)
      | inr le ↦ let past : offset + count ≤ 4096 * k = omega arith in grind (arith, nat_tests)
    ]

-- of pages of which those from a number on are written, one more
pub written_next : (page before after : ℕ → List ℕ) (offset : ℕ) (piece : List ℕ) (number : ℕ) → 0 < number
    → ((k : ℕ) → before k ≡ (if nat_le number k then page_after offset piece k (page k) else page k)) → after (number - 1) ≡ page_after offset piece (number - 1) (page (number - 1))
    → ((k : ℕ) → k ≢ number - 1 → after k ≡ before k) → (k : ℕ) → after k ≡ (if nat_le (number - 1) k then page_after offset piece k (page k) else page k)
written_next page before after offset piece number some was here others k =
    elim (cases_eq k (number - 1)) [
      | inl e ↦ let behind : nat_le (number - 1) k ≡ true = grind (arith, nat_tests) in
          rw behind (ap after e ∙ here ∙ ap (λ (n : ℕ). page_after offset piece n (page n)) (sym e))
      | inr apart ↦ let same : nat_le number k ≡ nat_le (number - 1) k = grind (arith, nat_tests) in
          others k apart ∙ was k ∙ ap (λ (b : Bool). if b then page_after offset piece k (page k) else page k) same
    ]

-- none, and all of them
pub written_none : (page : ℕ → List ℕ) (offset : ℕ) (piece : List ℕ) (number : ℕ) → number ≡ div_ceil (offset + length piece) 4096 → (k : ℕ) → page k ≡ (if nat_le number k then page_after offset piece k (page k) else page k)
written_none page offset piece number is k =
    elim (cases_lt k number) [
      | inl lt ↦ let before : nat_le number k ≡ false = grind (arith, nat_tests) in rw before refl
      | inr le ↦ let behind : nat_le number k ≡ true = grind (arith, nat_tests) in
          let past : offset + length piece ≤ 4096 * k = omega arith in
          rw behind (sym (untouched offset piece k (page k) (grind (arith, nat_tests))))
    ]

pub written_all : (page : ℕ → List ℕ) (offset : ℕ) (piece : List ℕ) (number : ℕ) → number ≡ offset / 4096 → (k : ℕ) → (if nat_le number k then page_after offset piece k (page k) else page k) ≡ page_after offset piece k (page k)
written_all page offset piece number is k =
    elim (cases_lt k number) [
      | inl lt ↦ let before : nat_le number k ≡ false = grind (arith, nat_tests) in
          let above : 4096 * k + 4096 ≤ offset = omega arith in
          rw before (sym (untouched offset piece k (page k) (grind (arith, nat_tests))))
      | inr le ↦ let behind : nat_le number k ≡ true = grind (arith, nat_tests) in rw behind refl
    ]

-- a piece that lies in one page
pub written_one : (page after : ℕ → List ℕ) (offset : ℕ) (piece : List ℕ) → offset % 4096 + length piece ≤ 4096 → after (offset / 4096) ≡ page_after offset piece (offset / 4096) (page (offset / 4096))
    → ((k : ℕ) → k ≢ offset / 4096 → after k ≡ page k) → (k : ℕ) → after k ≡ page_after offset piece k (page k)
written_one page after offset piece one here others k =
    elim (cases_eq k (offset / 4096)) [
      | inl e ↦ ap after e ∙ here ∙ ap (λ (n : ℕ). page_after offset piece n (page n)) (sym e)
      | inr apart ↦ let outside : has_byte_of offset (length piece) k ≡ false = outside_one offset (length piece) k one apart in
          others k apart ∙ sym (untouched offset piece k (page k) outside)
    ]
