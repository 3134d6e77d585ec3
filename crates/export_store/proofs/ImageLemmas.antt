-- The image after one of its pages has changed.
use Rattle.std.proofs.Common.{◌≡◌, ◌≢◌, ℕ, zero, suc, ◌+◌, ◌*◌, ◌/◌, ◌%◌, ◌<◌, ◌≤◌, inl, inr, Bool, true, false, ◌||◌, nat_eq, is_some, unwrap_or, Result, Ok, Err, OnOk, OnErr, Option, Some, None, List, ◌++◌, length, take, drop, get_or, replicate, min, if◌then◌else◌, refl, sym, ap, ◌∙◌, arith, length-append}
use Rattle.std.proofs.lemmas.Bool.{cases_eq}
use Rattle.std.proofs.lemmas.Bool.Decides.{nat_tests}
use Rattle.std.proofs.lemmas.List.{length-take, length-replicate, replicate-append-replicate, take-replicate, get_or-take, get_or-replicate}
use Rattle.payload.specs.Bytes.{range_of, overwritten}
use Rattle.payload.specs.Rows.{zero_page}
use Rattle.payload.proofs.Overwriting.{take-overwritten, range_of-take}
use Rattle.number_sets.specs.Bits.{is_between}
use Rattle.page_table.specs.Table.{Stored, in_table}
use Rattle.number_sets.specs.Marks.{is_marked}
use Rattle.number_sets.proofs.RangeLemmas.{between_yes}
use Rattle.export_store.specs.Pages.{Pages, stored_page, is_stored, is_held_zeros, is_held, page_of, in_a_row, image_of, IsPaged}
use Rattle.export_store.proofs.PageLemmas.{length-in_a_row, same_row, range_of-in_a_row, range_of-pages, overwritten-in_a_row, at_row}

pub length-zero_page : length zero_page ≡ 4096
unfolding zero_page
length-zero_page = length-replicate {A = ℕ} 4096 0

-- as a list of so many zeros, where the number isn't written out
zero_page_is : (n : ℕ) → n ≡ 4096 → zero_page ≡ replicate n 0
unfolding zero_page
zero_page_is n e = ap (λ (k : ℕ). replicate k 0) (sym e)

pub at_zero_page : (k d : ℕ) → k < 4096 → get_or zero_page k d ≡ 0
unfolding zero_page
at_zero_page k d below = get_or-replicate {A = ℕ} 4096 k 0 d below

-- the bytes of what is stored
abbrev pub shown : Option (List ℕ) → List ℕ
shown page = unwrap_or page zero_page

-- the new pages are the old ones, but that one is stored under a number, which isn't held zeros then
pub record Changes (old new : Pages) (number : ℕ) (page : List ℕ) : Type 0 where
  pub size : new.size ≡ old.size
  pub here : stored_page new number ≡ Some page
  pub others : (k : ℕ) → k ≢ number → stored_page new k ≡ stored_page old k
  pub zeros : (k : ℕ) → is_held_zeros new k ≡ (if is_between number (number + 1) k then false else is_held_zeros old k)

pub changes : (size : ℕ) (m n : Stored) (y z : List (ℕ × List ℕ)) (number : ℕ) (page : List ℕ) → in_table n number ≡ Some page
    → ((k : ℕ) → k ≢ number → in_table n k ≡ in_table m k) → ((k : ℕ) → is_marked z k ≡ (if is_between number (number + 1) k then false else is_marked y k))
    → Changes (record { size = size; chunks = m; zeros = y }) (record { size = size; chunks = n; zeros = z }) number page
changes size m n y z number page here others zeros = record { size = refl; here = here; others = others; zeros = zeros }

or_same : (a b c d : Bool) → a ≡ c → b ≡ d → (a || b) ≡ (c || d)
or_same a b c d e f = rw (e, f) refl

or_false : (a : Bool) → (a || false) ≡ a
or_false true = refl
or_false false = refl

or_true : (a : Bool) → true ≡ (a || true)
or_true true = refl
or_true false = refl

module _ (old new : Pages) (number : ℕ) (page : List ℕ) (change : Changes old new number page) where
  pub page_here : page_of new number ≡ page
  page_here = ap shown change.here

  pub page_others : (k : ℕ) → k ≢ number → page_of new k ≡ page_of old k
  page_others k apart = ap shown (change.others k apart)

  zeros_here : is_held_zeros new number ≡ false
  zeros_here = let here : is_between number (number + 1) number ≡ true = between_yes number (number + 1) number (omega arith) (omega arith) in change.zeros number ∙ ap (λ (b : Bool). if b then false else is_held_zeros old number) here

  zeros_others : (k : ℕ) → k ≢ number → is_held_zeros new k ≡ is_held_zeros old k
  zeros_others k apart = let other : is_between number (number + 1) k ≡ false = grind (arith, nat_tests) in change.zeros k ∙ ap (λ (b : Bool). if b then false else is_held_zeros old k) other

  pub held_changes : (k : ℕ) → is_held new k ≡ (is_held old k || nat_eq k number)
  held_changes k =
      elim (cases_eq k number) [
        | inl e ↦ let same : nat_eq k number ≡ true = grind (arith, nat_tests) in
            let there : is_held new k ≡ true = ap (is_held new) e ∙ ap (λ (p : Option (List ℕ)). is_some p || is_held_zeros new number) change.here in
            there ∙ or_true (is_held old k) ∙ ap (λ (b : Bool). is_held old k || b) (sym same)
        | inr apart ↦ let other : nat_eq k number ≡ false = grind (arith, nat_tests) in
            or_same (is_stored new k) (is_held_zeros new k) (is_stored old k) (is_held_zeros old k) (ap is_some (change.others k apart)) (zeros_others k apart)
            ∙ sym (or_false (is_held old k)) ∙ ap (λ (b : Bool). is_held old k || b) (sym other)
      ]

  pub IsPaged-changes : IsPaged old → length page ≡ 4096 → 4096 * number < old.size → IsPaged new
  IsPaged-changes is long begins = record {
    whole = λ k. elim (cases_eq k number) [
      | inl e ↦ rw e (ap length page_here ∙ long)
      | inr apart ↦ ap length (page_others k apart) ∙ is.whole k
    ];
    within = λ k held. elim (cases_eq k number) [
      | inl e ↦ rw (e, change.size) begins
      | inr apart ↦ rw change.size (is.within k (sym (or_same (is_stored new k) (is_held_zeros new k) (is_stored old k) (is_held_zeros old k) (ap is_some (change.others k apart)) (zeros_others k apart)) ∙ held))
    ];
    apart = λ k stored. elim (cases_eq k number) [
      | inl e ↦ ap (is_held_zeros new) e ∙ zeros_here
      | inr apart ↦ zeros_others k apart ∙ is.apart k (ap is_some (sym (change.others k apart)) ∙ stored)
    ];
  }

pub held_of_stored : (pages : Pages) (k : ℕ) → is_stored pages k ≡ true → is_held pages k ≡ true
held_of_stored pages k stored = ap (λ (b : Bool). b || is_held_zeros pages k) stored

-- a page that is stored already
pub held_again : (pages : Pages) (k number : ℕ) → is_stored pages number ≡ true → (is_held pages k || nat_eq k number) ≡ is_held pages k
held_again pages k number stored =
    elim (cases_eq k number) [
      | inl e ↦ let there : is_held pages k ≡ true = ap (is_held pages) e ∙ ap (λ (b : Bool). b || is_held_zeros pages number) stored in rw there refl
      | inr apart ↦ let other : nat_eq k number ≡ false = grind (arith, nat_tests) in rw other (or_false (is_held pages k))
    ]

-- a page that isn't stored
none_stored : (page : Option (List ℕ)) → is_some page ≡ false → page ≡ None
none_stored None absent = refl
none_stored (Some page) absent = absurd (cc)

pub page_absent : (pages : Pages) (number : ℕ) → is_stored pages number ≡ false → page_of pages number ≡ zero_page
page_absent pages number absent = ap shown (none_stored (stored_page pages number) absent)

-- images of the same pages are the same
pub same_image : (old new : Pages) → new.size ≡ old.size → ((k : ℕ) → page_of new k ≡ page_of old k) → image_of new ≡ image_of old
unfolding image_of
same_image old new size same = rw (size, same_row (page_of old) (page_of new) (old.size / 4096 + 1) (λ k _. same k)) refl

-- how long the image is
pub length-image_of : (pages : Pages) → IsPaged pages → length (image_of pages) ≡ pages.size
unfolding image_of
length-image_of pages is = omega (arith, length-take pages.size (in_a_row (page_of pages) (pages.size / 4096 + 1)), length-in_a_row (page_of pages) is.whole (pages.size / 4096 + 1))

-- a range that lies in one page
pub range_of-image : (pages : Pages) → IsPaged pages → (at n : ℕ) → at % 4096 + n ≤ 4096 → at + n ≤ length (image_of pages)
    → range_of (image_of pages) at n ≡ range_of (page_of pages (at / 4096)) (at % 4096) n
unfolding image_of
range_of-image pages is at n one within =
    let count : ℕ = pages.size / 4096 + 1 in
    let row : List ℕ = in_a_row (page_of pages) count in
    let long : length row ≡ 4096 * count = length-in_a_row (page_of pages) is.whole count in
    let cut : length (take pages.size row) ≡ min pages.size (length row) = length-take pages.size row in
    let place : 4096 * (at / 4096) + at % 4096 ≡ at = omega arith in
    range_of-take pages.size row at n (omega arith) (omega arith)
    ∙ ap (λ (k : ℕ). range_of row k n) (sym place)
    ∙ range_of-in_a_row (page_of pages) is.whole count (at / 4096) (at % 4096) n (omega arith) one

-- a range that lies in the pages from one on before an end
pub range_of-several : (pages : Pages) → IsPaged pages → (at n first end : ℕ) → at + n ≤ length (image_of pages) → first ≡ at / 4096 → at + n ≤ 4096 * end
    → range_of (drop (4096 * first) (in_a_row (page_of pages) end)) (at % 4096) n ≡ range_of (image_of pages) at n
unfolding image_of
range_of-several pages is at n first end within begins ends =
    let count : ℕ = pages.size / 4096 + 1 in
    let row : List ℕ = in_a_row (page_of pages) count in
    let long : length row ≡ 4096 * count = length-in_a_row (page_of pages) is.whole count in
    let cut : length (take pages.size row) ≡ min pages.size (length row) = length-take pages.size row in
    let place : 4096 * first + at % 4096 ≡ at = omega arith in
    range_of-pages (page_of pages) is.whole first end count (at % 4096) n (omega arith) (omega arith)
    ∙ ap (λ (k : ℕ). range_of row k n) place
    ∙ sym (range_of-take pages.size row at n (omega arith) (omega arith))

-- the bytes of the image
pub at_image : (pages : Pages) → IsPaged pages → (k d : ℕ) → k < pages.size → get_or (image_of pages) k d ≡ get_or (page_of pages (k / 4096)) (k % 4096) d
unfolding image_of
at_image pages is k d below =
    get_or-take pages.size (in_a_row (page_of pages) (pages.size / 4096 + 1)) k d below ∙ at_row (page_of pages) is.whole (pages.size / 4096 + 1) k d (omega arith)

-- the image after a write to one page
pub image_written : (old new : Pages) (at : ℕ) (bytes : List ℕ) → IsPaged old → new.size ≡ old.size → at % 4096 + length bytes ≤ 4096 → at + length bytes ≤ length (image_of old)
    → page_of new (at / 4096) ≡ overwritten (page_of old (at / 4096)) (at % 4096) (length bytes) bytes → ((k : ℕ) → k ≢ at / 4096 → page_of new k ≡ page_of old k)
    → image_of new ≡ overwritten (image_of old) at (length bytes) bytes
unfolding image_of
image_written old new at bytes is size one within here others =
    let count : ℕ = old.size / 4096 + 1 in
    let row : List ℕ = in_a_row (page_of old) count in
    let long : length row ≡ 4096 * count = length-in_a_row (page_of old) is.whole count in
    let cut : length (take old.size row) ≡ min old.size (length row) = length-take old.size row in
    let place : 4096 * (at / 4096) + at % 4096 ≡ at = omega arith in
    let written : in_a_row (page_of new) count ≡ overwritten row at (length bytes) bytes =
    overwritten-in_a_row (page_of old) (page_of new) is.whole count (at / 4096) (at % 4096) bytes (omega arith) one here others
    ∙ ap (λ (k : ℕ). overwritten row k (length bytes) bytes) place in
    rw (size, written) (take-overwritten old.size row bytes at (omega arith) (omega arith))

-- what holds anyhow holds after a failure
pub on_err : {T E : Type 0} (r : Result T E) (P : Type 0) → P → OnErr r P
on_err (Ok x) P p = tt
on_err (Err e) P p = p

-- what follows from success and from failure follows
pub either_way : {T E : Type 0} (r : Result T E) (P Q R : Type 0) → OnOk r P → OnErr r Q → (P → R) → (Q → R) → R
either_way (Ok x) P Q R p q from_p from_q = from_p p
either_way (Err e) P Q R p q from_p from_q = from_q q

-- where the same pages are held
pub IsPaged-same : (old new : Pages) → IsPaged old → new.size ≡ old.size → ((k : ℕ) → stored_page new k ≡ stored_page old k) → ((k : ℕ) → is_held_zeros new k ≡ is_held_zeros old k) → IsPaged new
IsPaged-same old new is size stored zeros = record {
  whole = λ k. ap (λ (p : Option (List ℕ)). length (shown p)) (stored k) ∙ is.whole k;
  within = λ k held. rw size (is.within k (sym (or_same (is_stored new k) (is_held_zeros new k) (is_stored old k) (is_held_zeros old k) (ap is_some (stored k)) (zeros k)) ∙ held));
  apart = λ k there. zeros k ∙ is.apart k (ap is_some (sym (stored k)) ∙ there);
}

-- the image after a page was stored as it is
pub image_stored : (old new : Pages) (number : ℕ) (page : List ℕ) → page ≡ zero_page → new.size ≡ old.size → stored_page new number ≡ Some page
    → ((k : ℕ) → k ≢ number → stored_page new k ≡ stored_page old k) → is_stored old number ≡ false → image_of new ≡ image_of old
image_stored old new number page zeros size here others absent =
    same_image old new size (λ k. elim (cases_eq k number) [
      | inl e ↦ rw e (ap shown here ∙ zeros ∙ sym (page_absent old number absent))
      | inr apart ↦ ap shown (others k apart)
    ])

-- where no page is held
zeros_in_a_row : (page : ℕ → List ℕ) → ((k : ℕ) → page k ≡ zero_page) → (count : ℕ) → in_a_row page count ≡ replicate (length (in_a_row page count)) 0
zeros_in_a_row page none zero = refl
zeros_in_a_row page none (suc count) =
    let front : List ℕ = in_a_row page count in
    let last : page count ≡ replicate (length (page count)) 0 = none count ∙ zero_page_is (length (page count)) (ap length (none count) ∙ length-zero_page) in
    let both : front ++ page count ≡ replicate (length front) 0 ++ replicate (length (page count)) 0 =
    ap (λ (xs : List ℕ). xs ++ page count) (zeros_in_a_row page none count) ∙ ap (λ (ys : List ℕ). replicate (length front) 0 ++ ys) last in
    rw length-append (both ∙ replicate-append-replicate (length front) (length (page count)) 0)

pub IsPaged-none : (pages : Pages) → ((k : ℕ) → stored_page pages k ≡ None) → ((k : ℕ) → is_held_zeros pages k ≡ false) → IsPaged pages
IsPaged-none pages none zeros = record {
  whole = λ k. ap (λ (p : Option (List ℕ)). length (shown p)) (none k) ∙ length-zero_page;
  within = λ k held. let bad : false ≡ true = sym (or_same (is_stored pages k) (is_held_zeros pages k) false false (ap is_some (none k)) (zeros k)) ∙ held in absurd (cc);
  apart = λ k stored. zeros k;
}

pub none_is_held : (pages : Pages) → ((k : ℕ) → stored_page pages k ≡ None) → ((k : ℕ) → is_held_zeros pages k ≡ false) → (k : ℕ) → is_held pages k ≡ false
none_is_held pages none zeros k = or_same (is_stored pages k) (is_held_zeros pages k) false false (ap is_some (none k)) (zeros k)

pub image_of-none : (pages : Pages) → ((k : ℕ) → stored_page pages k ≡ None) → ((k : ℕ) → is_held_zeros pages k ≡ false) → image_of pages ≡ replicate pages.size 0
unfolding image_of
image_of-none pages none zeros =
    let count : ℕ = pages.size / 4096 + 1 in
    let row : List ℕ = in_a_row (page_of pages) count in
    let all : row ≡ replicate (length row) 0 = zeros_in_a_row (page_of pages) (λ k. ap shown (none k)) count in
    let long : length row ≡ 4096 * count = length-in_a_row (page_of pages) (IsPaged-none pages none zeros).whole count in
    ap (take pages.size) all ∙ take-replicate pages.size (length row) 0 (omega arith)

-- The same of an image as its fields were found, where `now` is what contracts see of it.
module _ (found now : Pages) (seen : found ≡ now) (is : IsPaged found) where
  pub length_seen : length (image_of now) ≡ found.size
  length_seen = ap (λ (p : Pages). length (image_of p)) (sym seen) ∙ length-image_of found is

  -- where no page has changed
  pub image_same : (new : Pages) → new.size ≡ found.size → ((k : ℕ) → stored_page new k ≡ stored_page found k) → image_of new ≡ image_of now
  image_same new size same = same_image found new size (λ k. ap shown (same k)) ∙ ap image_of seen

  -- a page that has other bytes
  pub IsPaged-replace : (new : Pages) (number : ℕ) (page : List ℕ) → length page ≡ 4096 → 4096 * number < length (image_of now) → Changes found new number page → IsPaged new
  IsPaged-replace new number page whole begins change = IsPaged-changes found new number page change is whole (rw (← length_seen) begins)

  pub length-replace : (new : Pages) (number : ℕ) (page : List ℕ) → length page ≡ 4096 → 4096 * number < length (image_of now) → Changes found new number page → length (image_of new) ≡ length (image_of now)
  length-replace new number page whole begins change = length-image_of new (IsPaged-replace new number page whole begins change) ∙ change.size ∙ sym length_seen

  pub held_replace : (new : Pages) (number : ℕ) (page : List ℕ) → Changes found new number page → (k : ℕ) → is_held new k ≡ (is_held now k || nat_eq k number)
  held_replace new number page change k = held_changes found new number page change k ∙ ap (λ (p : Pages). is_held p k || nat_eq k number) seen
