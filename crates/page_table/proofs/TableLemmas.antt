-- A table after its chunks or its holes have changed.
use Rattle.std.proofs.Common.{◌≡◌, ◌≢◌, ℕ, ◌+◌, ◌-◌, ◌*◌, ◌/◌, ◌<◌, ◌≤◌, ◌^◌, Bool, true, false, not, ◌||◌, ◌&&◌, ◌==◌, nat_eq, is_some, inl, inr, Option, Some, None, List, [], length, replicate, take, if◌then◌else◌, refl, sym, ap, ◌∙◌, arith}
use Rattle.std.proofs.lemmas.Bool.{cases_eq, cases_Bool}
use Rattle.std.proofs.lemmas.Bool.Decides.{nat_tests}
use Rattle.std.proofs.lemmas.List.{take-replicate}
use Rattle.payload.specs.Rows.{zero_page}
use Rattle.number_sets.specs.Bits.{is_between}
use Rattle.page_table.specs.Holes.{Holes, is_hole, is_noted, AreOrdered}
use Rattle.page_table.specs.Table.{Regions, Stored, chunk_of, in_chunks, in_table, is_kept, shown, shown_page, cleared, HaveRoom}
use Rattle.number_sets.proofs.CountLemmas.{count_of, count-none, count-append, count-shift}
use Rattle.page_table.proofs.PlacesLemmas.{count_added, count_same}
use Rattle.page_table.proofs.ChunksLemmas.{other_chunk}
use Rattle.page_table.proofs.HolesLemmas.{Rows, no_hole, rows_fewer}
use Rattle.page_table.proofs.ShownLemmas.{page_none, page_same, page_dug}

-- the page of a number
pub page_is : (table : Stored) (k : ℕ) → in_table table k ≡ shown_page (is_hole table.holes k) (in_chunks table.chunks k)
unfolding in_table
page_is table k = refl

some_shown : (hole : ℕ → Bool) (page : Option (List ℕ)) → is_some (shown_page hole page) ≡ is_some page
some_shown hole None = refl
some_shown hole (Some page) = refl

none_shown : (hole : ℕ → Bool) (page : Option (List ℕ)) → shown_page hole page ≡ None → page ≡ None
none_shown hole None none = refl
none_shown hole (Some page) none = absurd (cc)

pub is_stored : (table : Stored) (k : ℕ) → is_some (in_table table k) ≡ is_kept table.chunks k
is_stored table k = ap is_some (page_is table k) ∙ some_shown (is_hole table.holes k) (in_chunks table.chunks k)

pub none_is : (table : Stored) (k : ℕ) → in_chunks table.chunks k ≡ None → in_table table k ≡ None
none_is table k none = page_is table k ∙ ap (shown_page (is_hole table.holes k)) none

pub none_back : (table : Stored) (k : ℕ) → in_table table k ≡ None → in_chunks table.chunks k ≡ None
none_back table k none = none_shown (is_hole table.holes k) (in_chunks table.chunks k) (sym (page_is table k) ∙ none)

pub shown_is : (table : Stored) (k : ℕ) (page : List ℕ) → in_chunks table.chunks k ≡ Some page → in_table table k ≡ Some (shown (is_hole table.holes k) 0 page)
shown_is table k page there = page_is table k ∙ ap (shown_page (is_hole table.holes k)) there

pub whole_is : (table : Stored) (k : ℕ) (page : List ℕ) → in_chunks table.chunks k ≡ Some page → ((j : ℕ) → is_hole table.holes k j ≡ false) → in_table table k ≡ Some page
whole_is table k page there none = page_is table k ∙ ap (shown_page (is_hole table.holes k)) there ∙ page_none (is_hole table.holes k) (Some page) none

pub same_is : (old new : Stored) (k : ℕ) → in_chunks new.chunks k ≡ in_chunks old.chunks k → ((j : ℕ) → is_hole new.holes k j ≡ is_hole old.holes k j) → in_table new k ≡ in_table old k
same_is old new k same holes =
    page_is new k ∙ ap (shown_page (is_hole new.holes k)) same ∙ page_same (is_hole old.holes k) (is_hole new.holes k) (in_chunks old.chunks k) holes ∙ sym (page_is old k)

-- no byte of a page is noted any more
eq_self : (k : ℕ) → nat_eq k k ≡ true
eq_self k = grind (arith, nat_tests)

eq_other : (p q : ℕ) → p ≢ q → nat_eq p q ≡ false
eq_other p q apart = grind (arith, nat_tests)

pub filled_bit : (b a : Bool) → a ≡ true → (b && not a) ≡ false
filled_bit true true e = refl
filled_bit false true e = refl
filled_bit b false e = absurd (cc)

pub kept_bit : (b a : Bool) → a ≡ false → (b && not a) ≡ b
kept_bit true false e = refl
kept_bit false false e = refl
kept_bit b true e = absurd (cc)

pub filled_here : (old new : Rows) (page : ℕ) → ((p k : ℕ) → is_hole new p k ≡ (is_hole old p k && not (p == page))) → (k : ℕ) → is_hole new page k ≡ false
filled_here old new page filled k = filled page k ∙ filled_bit (is_hole old page k) (nat_eq page page) (eq_self page)

pub filled_others : (old new : Rows) (page : ℕ) → ((p k : ℕ) → is_hole new p k ≡ (is_hole old p k && not (p == page))) → (p : ℕ) → p ≢ page → (k : ℕ) → is_hole new p k ≡ is_hole old p k
filled_others old new page filled p apart k = filled p k ∙ kept_bit (is_hole old p k) (nat_eq p page) (eq_other p page apart)

-- A range of a page is noted as zeros.
or_and_true : (a b c : Bool) → b ≡ true → (a || (b && c)) ≡ (a || c)
or_and_true a true c e = refl
or_and_true a false c e = absurd (cc)

or_and_false : (a b c : Bool) → b ≡ false → (a || (b && c)) ≡ a
or_and_false true false c e = refl
or_and_false false false c e = refl
or_and_false a true c e = absurd (cc)

module _ (old new : Stored) (page start count : ℕ) (same : new.chunks ≡ old.chunks)
    (dug : (p k : ℕ) → is_hole new.holes p k ≡ (is_hole old.holes p k || ((p == page) && is_between start (start + count) k))) where
  pub dug_here : ((bytes : List ℕ) → in_chunks old.chunks page ≡ Some bytes → start + count ≤ length bytes) → in_table new page ≡ cleared start count (in_table old page)
  dug_here within =
      page_is new page
      ∙ ap (λ (all : Regions). shown_page (is_hole new.holes page) (in_chunks all page)) same
      ∙ page_dug (is_hole old.holes page) (is_hole new.holes page) (in_chunks old.chunks page) start count within
      (λ k. dug page k ∙ or_and_true (is_hole old.holes page k) (nat_eq page page) (is_between start (start + count) k) (eq_self page))
      ∙ ap (cleared start count) (sym (page_is old page))

  pub dug_others : (k : ℕ) → k ≢ page → in_table new k ≡ in_table old k
  dug_others k apart =
      same_is old new k (ap (λ (all : Regions). in_chunks all k) same)
      (λ j. dug k j ∙ or_and_false (is_hole old.holes k j) (nat_eq k page) (is_between start (start + count) j) (eq_other k page apart))

-- a page that isn't there has no row
pub no_holes : (chunks : Regions) (holes : Holes) (number : ℕ) → HaveRoom chunks holes → in_chunks chunks number ≡ None → (k : ℕ) → is_hole holes.rows number k ≡ false
no_holes chunks holes number have none k =
    no_hole holes.rows number k (elim (cases_Bool (is_noted holes.rows number)) [
      | inl noted ↦ let bad : false ≡ true = sym (ap is_some none) ∙ have.rows number noted in absurd (cc)
      | inr absent ↦ absent
    ])

-- There is room for rows.
pub room_none : (chunks : Regions) (holes : Holes) → ((k : ℕ) → in_chunks chunks k ≡ None) → holes.rows ≡ [] → holes.pages ≡ 0 → HaveRoom chunks holes
room_none chunks holes none rows pages = record {
  pages = count-none (is_kept chunks) 0 (2 ^ 64) (λ k above below. ap is_some (none k)) ∙ sym pages;
  rows = λ k noted. (let bad : false ≡ true = sym (ap (λ (all : Rows). is_noted all k) rows) ∙ noted in absurd (cc));
}

-- where the same pages are kept, and no more rows
pub room_same : (old new : Regions) (before after : Holes) → HaveRoom old before → ((k : ℕ) → is_kept new k ≡ is_kept old k) → after.pages ≡ before.pages
    → ((k : ℕ) → is_noted after.rows k ≡ true → is_noted before.rows k ≡ true) → HaveRoom new after
room_same old new before after was same pages fewer = record {
  pages = count_same (is_kept old) (is_kept new) 0 (2 ^ 64) (λ k above. same k) ∙ was.pages ∙ sym pages;
  rows = λ k noted. same k ∙ was.rows k (fewer k noted);
}

-- where a page comes
module _ (old new : Regions) (before after : Holes) (number : ℕ) (below : number < 2 ^ 64) (was : HaveRoom old before) (none : in_chunks old number ≡ None)
    (others : (k : ℕ) → k ≢ number → in_chunks new k ≡ in_chunks old k) (rows : after.rows ≡ before.rows) where
  zero_more : (k : ℕ) → k ≡ 0 + k
  zero_more k = omega arith

  first : (test : ℕ → Bool) (k : ℕ) → test (0 + k) ≡ test k
  first test k = ap test (sym (zero_more k))

  pub room_added : (page : List ℕ) → in_chunks new number ≡ Some page → after.pages ≡ before.pages + 1 → HaveRoom new after
  room_added page here pages = record {
    pages = omega (
      arith,
      was.pages,
      pages,
      count_added (is_kept old) (is_kept new) 0 (2 ^ 64) number below (first (is_kept old) number ∙ ap is_some none) (first (is_kept new) number ∙ ap is_some here)
          (λ k apart. ap is_some (others k (λ same. apart (same ∙ zero_more number)))),
    );
    rows = λ k noted. elim (cases_eq k number) [
      | inl e ↦ ap (is_kept new) e ∙ ap is_some here
      | inr apart ↦ ap is_some (others k apart) ∙ was.rows k (sym (ap (λ (all : Rows). is_noted all k) rows) ∙ noted)
    ];
  }

  pub room_unchanged : in_chunks new number ≡ None → after.pages ≡ before.pages → HaveRoom new after
  room_unchanged here pages =
      room_same old new before after was (λ k. elim (cases_eq k number) [
        | inl e ↦ ap (is_kept new) e ∙ ap is_some (here ∙ sym none) ∙ ap (is_kept old) (sym e)
        | inr apart ↦ ap is_some (others k apart)
      ]) pages (λ k noted. sym (ap (λ (all : Rows). is_noted all k) rows) ∙ noted)

-- so there is room for the row of a page that has none
pub room_for : (chunks : Regions) (holes : Holes) (page : ℕ) → HaveRoom chunks holes → is_kept chunks page ≡ true → page < 2 ^ 64 → AreOrdered 0 holes.rows → is_noted holes.rows page ≡ false → length holes.rows < holes.pages
room_for chunks holes page have here below ordered none = rows_fewer (is_kept chunks) holes.rows page holes.pages have.pages ordered have.rows here below none

-- where pages of a chunk go
pub split : (test : ℕ → Bool) (q : ℕ) → 256 * q < 2 ^ 64 → count_of test 0 (2 ^ 64) ≡ count_of test 0 (256 * q) + (count_of test (256 * q) 256 + count_of test (256 * q + 256) (2 ^ 64 - (256 * q + 256)))
split test q below =
    count-append test 0 (256 * q) (2 ^ 64 - 256 * q) (2 ^ 64) (256 * q) (omega (arith, below)) (omega arith)
    ∙ ap (λ (n : ℕ). count_of test 0 (256 * q) + n)
    (count-append test (256 * q) 256 (2 ^ 64 - (256 * q + 256)) (2 ^ 64 - 256 * q) (256 * q + 256) (omega (arith, below)) refl)

module _ (old new : Regions) (before after : Holes) (q from end count : ℕ) (below : 256 * q < 2 ^ 64) (was : HaveRoom old before)
    (here : (k : ℕ) → k / 256 ≡ q → in_chunks new k ≡ (if is_between from end k then None else in_chunks old k)) (others : (p : ℕ) → p ≢ q → chunk_of new p ≡ chunk_of old p) where
  outside : (begin n : ℕ) → ((k : ℕ) → begin ≤ k → k < begin + n → k / 256 ≢ q) → count_of (is_kept new) begin n ≡ count_of (is_kept old) begin n
  outside begin n apart =
      count-shift (is_kept old) (is_kept new) begin begin n (λ i j above less at.
      let same : j ≡ i = omega (arith, at) in ap (is_kept new) same ∙ ap is_some (other_chunk old new q others i (apart i above less)))

  stays : ((k : ℕ) → is_between from end k ≡ true → is_noted before.rows k ≡ false) → (k : ℕ) → is_noted before.rows k ≡ true → is_kept new k ≡ true
  stays filled k noted =
      elim (cases_eq (k / 256) q) [
        | inl e ↦ elim (cases_Bool (is_between from end k)) [
          | inl within ↦ let bad : false ≡ true = sym (filled k within) ∙ noted in absurd (cc)
          | inr beyond ↦ ap is_some (here k e ∙ ap (λ (b : Bool). if b then None else in_chunks old k) beyond) ∙ was.rows k noted
        ]
        | inr apart ↦ ap is_some (other_chunk old new q others k apart) ∙ was.rows k noted
      ]

  pub room_removed : count_of (is_kept new) (256 * q) 256 + count ≡ count_of (is_kept old) (256 * q) 256 → after.rows ≡ before.rows → after.pages + count ≡ before.pages
      → ((k : ℕ) → is_between from end k ≡ true → is_noted before.rows k ≡ false) → HaveRoom new after
  room_removed counted rows pages filled = record {
    pages = omega (
      arith,
      split (is_kept old) q below,
      split (is_kept new) q below,
      counted,
      pages,
      was.pages,
      outside 0 (256 * q) (λ k above less same. absurd (omega (arith, less, same))),
      outside (256 * q + 256) (2 ^ 64 - (256 * q + 256)) (λ k above less same. absurd (omega (arith, above, same))),
    );
    rows = λ k noted. stays filled k (sym (ap (λ (all : Rows). is_noted all k) rows) ∙ noted);
  }

pub filled_noted : (old new : Rows) (first end p : ℕ) → is_noted new p ≡ (is_noted old p && not (is_between first end p)) → is_between first end p ≡ true → is_noted new p ≡ false
filled_noted old new first end p filled inside = filled ∙ filled_bit (is_noted old p) (is_between first end p) inside

-- a table once pages of a range are gone
pub gone_is : (old new : Stored) (first end k : ℕ) → in_chunks new.chunks k ≡ (if is_between first end k then None else in_chunks old.chunks k)
    → ((j : ℕ) → is_hole new.holes k j ≡ (is_hole old.holes k j && not (is_between first end k))) → in_table new k ≡ (if is_between first end k then None else in_table old k)
gone_is old new first end k pages holes =
    elim (cases_Bool (is_between first end k)) [
      | inl inside ↦ none_is new k (pages ∙ ap (λ (b : Bool). if b then None else in_chunks old.chunks k) inside) ∙ ap (λ (b : Bool). if b then None else in_table old k) (sym inside)
      | inr outside ↦ same_is old new k (pages ∙ ap (λ (b : Bool). if b then None else in_chunks old.chunks k) outside) (λ j. holes j ∙ kept_bit (is_hole old.holes k j) (is_between first end k) outside)
          ∙ ap (λ (b : Bool). if b then None else in_table old k) (sym outside)
    ]

-- a part of a page of zeros
zero_page_is : (n : ℕ) → n ≡ 4096 → zero_page ≡ replicate n 0
unfolding zero_page
zero_page_is n e = ap (λ (k : ℕ). replicate k 0) (sym e)

zeros_part : (n count : ℕ) → n ≡ 4096 → count ≤ 4096 → take count zero_page ≡ replicate count 0
zeros_part n count all within = ap (take count) (zero_page_is n all) ∙ take-replicate count n 0 (omega arith)

pub zeros_of : (zeros : List ℕ) (count : ℕ) → zeros ≡ zero_page → count ≤ 4096 → take count zeros ≡ replicate count 0
zeros_of zeros count is within = ap (take count) is ∙ zeros_part 4096 count refl within

pub some_is : (a b : List ℕ) → ◌≡◌ {A = Option (List ℕ)} (Some a) (Some b) → a ≡ b
some_is a b same = cc
