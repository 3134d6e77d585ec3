-- An image once a range of it was made zero: its pages, its bytes, and which pages are held.
use Rattle.std.proofs.Common.{◌≡◌, ◌≢◌, ℕ, ◌+◌, ◌-◌, ◌*◌, ◌/◌, ◌%◌, ◌<◌, ◌≤◌, ◌⊎◌, inl, inr, Bool, true, false, ◌||◌, ◌&&◌, not, nat_lt, nat_le, min, is_some, Option, None, Some, List, length, replicate, get_or, if◌then◌else◌, refl, sym, ap, ◌∙◌, arith, rules}
use Rattle.std.proofs.lemmas.Bool.{cases_lt, cases_eq}
use Rattle.std.proofs.lemmas.Bool.Decides.{nat_tests}
use Rattle.std.proofs.lemmas.List.{places, same_lists, length-replicate}
use Rattle.payload.specs.Bytes.{overwritten}
use Rattle.payload.specs.Rows.{zero_page}
use Rattle.payload.proofs.BytesLemmas.{length-overwritten}
use Rattle.number_sets.specs.Bits.{is_between}
use Rattle.page_table.specs.Table.{cleared}
use Rattle.number_sets.proofs.RangeLemmas.{between_yes, between_before, between_behind}
use Rattle.export_store.specs.Pages.{Pages, IsPaged, stored_page, is_stored, is_held_zeros, is_held, page_of, image_of, has_byte_of, lies_whole_in, zeroed}
use Rattle.export_store.proofs.ImageLemmas.{shown, at_zero_page, length-zero_page, length-image_of, at_image}
use Rattle.export_store.proofs.RangeLemmas.{whole_touched, untouched_at, edge_at, byte_places}

pub either : (b : Bool) → (b ≡ true) ⊎ (b ≡ false)
either true = inl refl
either false = inr refl

-- a page of which no byte is made zero
overwritten_none : (page : List ℕ) (start n : ℕ) → n ≡ 0 → overwritten page start n (replicate n 0) ≡ page
overwritten_none page start n none = rw none (same_lists _ _ (search (rules, places)) (λ k d h. grind (arith, places)))

cleared_none : (start n : ℕ) (page : Option (List ℕ)) → n ≡ 0 → cleared start n page ≡ page
cleared_none start n None none = refl
cleared_none start n (Some page) none = ap (λ (bytes : List ℕ). Some bytes) (overwritten_none page start n none)

-- one that lies whole in the range, and another
pub zeroed_whole : (size offset count k : ℕ) (page : Option (List ℕ)) → lies_whole_in size offset count k ≡ true → zeroed size offset count k page ≡ None
unfolding zeroed
zeroed_whole size offset count k page whole = rw whole refl

pub zeroed_part : (size offset count k start n : ℕ) (page : Option (List ℕ)) → lies_whole_in size offset count k ≡ false → start ≡ offset - 4096 * k → n ≡ min (offset + count - 4096 * k) 4096 - (offset - 4096 * k)
    → cleared start n page ≡ zeroed size offset count k page
unfolding zeroed
zeroed_part size offset count k start n page part begins is = rw (part, begins, is) refl

pub zeroed_none : (size offset count k : ℕ) → zeroed size offset count k None ≡ None
zeroed_none size offset count k =
    elim (either (lies_whole_in size offset count k)) [
      | inl whole ↦ zeroed_whole size offset count k None whole
      | inr part ↦ sym (zeroed_part size offset count k _ _ None part refl refl)
    ]

pub zeroed_apart : (size offset count k : ℕ) (page : Option (List ℕ)) → 0 < count → has_byte_of offset count k ≡ false → lies_whole_in size offset count k ≡ false → zeroed size offset count k page ≡ page
zeroed_apart size offset count k page some apart part =
    let none : min (offset + count - 4096 * k) 4096 - (offset - 4096 * k) ≡ 0 = elim (untouched_at offset count k some apart) [ inl before ↦ omega arith | inr behind ↦ omega arith ] in
    sym (zeroed_part size offset count k _ _ page part refl refl) ∙ cleared_none _ _ page none

-- whether it is stored
some_cleared : (start n : ℕ) (page : Option (List ℕ)) → is_some (cleared start n page) ≡ is_some page
some_cleared start n None = refl
some_cleared start n (Some page) = refl

and_not_true : (a b : Bool) → b ≡ true → false ≡ (a && not b)
and_not_true true true e = refl
and_not_true false true e = refl
and_not_true a false e = absurd (cc)

and_not_false : (a b : Bool) → b ≡ false → a ≡ (a && not b)
and_not_false true false e = refl
and_not_false false false e = refl
and_not_false a true e = absurd (cc)

pub some_zeroed : (size offset count k : ℕ) (page : Option (List ℕ)) → is_some (zeroed size offset count k page) ≡ (is_some page && not (lies_whole_in size offset count k))
some_zeroed size offset count k page =
    elim (either (lies_whole_in size offset count k)) [
      | inl whole ↦ ap is_some (zeroed_whole size offset count k page whole) ∙ and_not_true (is_some page) (lies_whole_in size offset count k) whole
      | inr part ↦ ap is_some (sym (zeroed_part size offset count k _ _ page part refl refl)) ∙ some_cleared (offset - 4096 * k) (min (offset + count - 4096 * k) 4096 - (offset - 4096 * k)) page ∙ and_not_false (is_some page) (lies_whole_in size offset count k) part
    ]

-- its bytes
length-cleared : (start n : ℕ) (page : Option (List ℕ)) → (start + n ≤ 4096) ⊎ (n ≡ 0) → length (shown page) ≡ 4096 → length (shown (cleared start n page)) ≡ 4096
length-cleared start n None fits long = long
length-cleared start n (Some page) fits long =
    elim fits [
      | inl within ↦ length-overwritten page start n (replicate n 0) (omega (arith, long)) (length-replicate {A = ℕ} n 0) ∙ long
      | inr none ↦ ap length (overwritten_none page start n none) ∙ long
    ]

pub length-zeroed : (size offset count k : ℕ) (page : Option (List ℕ)) → length (shown page) ≡ 4096 → length (shown (zeroed size offset count k page)) ≡ 4096
length-zeroed size offset count k page long =
    elim (either (lies_whole_in size offset count k)) [
      | inl whole ↦ ap (λ (p : Option (List ℕ)). length (shown p)) (zeroed_whole size offset count k page whole) ∙ length-zero_page
      | inr part ↦ let start : ℕ = offset - 4096 * k in
          let n : ℕ = min (offset + count - 4096 * k) 4096 - start in
          let fits : (start + n ≤ 4096) ⊎ (n ≡ 0) = elim (cases_lt 4096 start) [ inl lt ↦ inr (omega arith) | inr le ↦ inl (omega arith) ] in
          ap (λ (p : Option (List ℕ)). length (shown p)) (sym (zeroed_part size offset count k start n page part refl refl)) ∙ length-cleared start n page fits long
    ]

zero_either : (b : Bool) (x : ℕ) → x ≡ 0 → x ≡ (if b then 0 else x)
zero_either true x is = is
zero_either false x is = refl

at_cleared : (start n : ℕ) (page : Option (List ℕ)) (j d : ℕ) → j < 4096 → length (shown page) ≡ 4096 → get_or (shown (cleared start n page)) j d ≡ (if nat_le start j && nat_lt j (start + n) then 0 else get_or (shown page) j d)
at_cleared start n None j d below long = zero_either (nat_le start j && nat_lt j (start + n)) (get_or zero_page j d) (at_zero_page j d below)
at_cleared start n (Some page) j d below long = grind (arith, places, nat_tests)

same_tests : (a b : Bool) → (a ≡ true → b ≡ true) → (b ≡ true → a ≡ true) → a ≡ b
same_tests true b there back = sym (there refl)
same_tests false true there back = back refl
same_tests false false there back = refl

at_zeroed : (size offset count k : ℕ) (page : Option (List ℕ)) (j d i : ℕ) → i ≡ 4096 * k + j → j < 4096 → i < size → length (shown page) ≡ 4096
    → get_or (shown (zeroed size offset count k page)) j d ≡ (if nat_le offset i && nat_lt i (offset + count) then 0 else get_or (shown page) j d)
at_zeroed size offset count k page j d i at below inside long =
    elim (either (lies_whole_in size offset count k)) [
      | inl whole ↦ let from : offset ≤ 4096 * k = grind (arith, nat_tests) in
          let to : min (4096 * k + 4096) size ≤ offset + count = grind (arith, nat_tests) in
          let in_it : nat_le offset i && nat_lt i (offset + count) ≡ true = let above : offset ≤ i = omega arith in let less : i < offset + count = omega arith in grind (arith, nat_tests) in
          ap (λ (p : Option (List ℕ)). get_or (shown p) j d) (zeroed_whole size offset count k page whole) ∙ at_zero_page j d below
          ∙ ap (λ (b : Bool). if b then 0 else get_or (shown page) j d) (sym in_it)
      | inr part ↦ let start : ℕ = offset - 4096 * k in
          let n : ℕ = min (offset + count - 4096 * k) 4096 - start in
          let same : (nat_le start j && nat_lt j (start + n)) ≡ (nat_le offset i && nat_lt i (offset + count)) =
          same_tests (nat_le start j && nat_lt j (start + n)) (nat_le offset i && nat_lt i (offset + count))
          (λ h. let above : start ≤ j = grind (arith, nat_tests) in let less : j < start + n = grind (arith, nat_tests) in
          let from : offset ≤ i = omega arith in let to : i < offset + count = omega arith in grind (arith, nat_tests))
          (λ h. let above : offset ≤ i = grind (arith, nat_tests) in let less : i < offset + count = grind (arith, nat_tests) in
          let from : start ≤ j = omega arith in let to : j < start + n = omega arith in grind (arith, nat_tests)) in
          ap (λ (p : Option (List ℕ)). get_or (shown p) j d) (sym (zeroed_part size offset count k start n page part refl refl))
          ∙ at_cleared start n page j d below long
          ∙ ap (λ (b : Bool). if b then 0 else get_or (shown page) j d) same
    ]

-- the bytes of the image
at_overwritten : (image : List ℕ) (offset count i d : ℕ) → offset + count ≤ length image → get_or (overwritten image offset count (replicate count 0)) i d ≡ (if nat_le offset i && nat_lt i (offset + count) then 0 else get_or image i d)
at_overwritten image offset count i d within = grind (arith, places, nat_tests)

pub image_zeroed : (old new : Pages) (offset count : ℕ) → IsPaged old → IsPaged new → new.size ≡ old.size → offset + count ≤ old.size
    → ((k : ℕ) → stored_page new k ≡ zeroed old.size offset count k (stored_page old k)) → image_of new ≡ overwritten (image_of old) offset count (replicate count 0)
image_zeroed old new offset count is will size within zeroed =
    let was : length (image_of old) ≡ old.size = length-image_of old is in
    let long : length (image_of new) ≡ old.size = length-image_of new will ∙ size in
    let after : length (overwritten (image_of old) offset count (replicate count 0)) ≡ old.size = length-overwritten (image_of old) offset count (replicate count 0) (omega (arith, was)) (length-replicate {A = ℕ} count 0) ∙ was in
    same_lists _ _ (long ∙ sym after) (λ i d h.
    let below : i < old.size = omega (arith, long, h) in
    let place : i ≡ 4096 * (i / 4096) + i % 4096 = omega arith in
    at_image new will i d (omega (arith, size))
    ∙ ap (λ (p : Option (List ℕ)). get_or (shown p) (i % 4096) d) (zeroed (i / 4096))
    ∙ at_zeroed old.size offset count (i / 4096) (stored_page old (i / 4096)) (i % 4096) d i place (omega arith) below (is.whole (i / 4096))
    ∙ ap (λ (byte : ℕ). if nat_le offset i && nat_lt i (offset + count) then 0 else byte) (sym (at_image old is i d below))
    ∙ sym (at_overwritten (image_of old) offset count i d (omega (arith, was))))

-- which pages are held zeros where they are to be kept, and which where they are given back
kept_held : (s m h w : Bool) → (s ≡ true → m ≡ false) → (w ≡ true → s ≡ true → h ≡ true)
    → ((s && not w) || (if h && not (s && not w) then true else m)) ≡ ((s || m) || h)
kept_held true true h w apart touched = let bad : true ≡ false = apart refl in absurd (cc)
kept_held true false true true apart touched = refl
kept_held true false false true apart touched = let bad : false ≡ true = touched refl refl in absurd (cc)
kept_held true false true false apart touched = refl
kept_held true false false false apart touched = refl
kept_held false true true w apart touched = refl
kept_held false true false w apart touched = refl
kept_held false false true w apart touched = refl
kept_held false false false w apart touched = refl

kept_apart : (s m h w : Bool) → (s ≡ true → m ≡ false) → (s && not w) ≡ true → (if h && not (s && not w) then true else m) ≡ false
kept_apart true m true false apart stored = apart refl
kept_apart true m false false apart stored = apart refl
kept_apart true m h true apart stored = absurd (cc)
kept_apart false m h w apart stored = absurd (cc)

given_held : (s m b w : Bool) → (s || m) ≡ true → b ≡ w → ((s && not w) || (if b then false else m)) ≡ ((s || m) && not w)
given_held true true true true some same = refl
given_held true true false false some same = refl
given_held true false true true some same = refl
given_held true false false false some same = refl
given_held false true true true some same = refl
given_held false true false false some same = refl
given_held false false b w some same = absurd (cc)
given_held s m true false some same = absurd (cc)
given_held s m false true some same = absurd (cc)

none_given : (s m b w : Bool) → (s || m) ≡ false → ((s && not w) || (if b then false else m)) ≡ ((s || m) && not w)
none_given false false true w none = refl
none_given false false false w none = refl
none_given true m b w none = absurd (cc)
none_given false true b w none = absurd (cc)

given_apart : (s m b w : Bool) → (s ≡ true → m ≡ false) → (s && not w) ≡ true → (if b then false else m) ≡ false
given_apart s m true w apart stored = refl
given_apart true m false w apart stored = apart refl
given_apart false m false w apart stored = absurd (cc)

or_true : (a : Bool) → (a || true) ≡ true
or_true true = refl
or_true false = refl

pub held_of_zeros : (pages : Pages) (k : ℕ) → is_held_zeros pages k ≡ true → is_held pages k ≡ true
held_of_zeros pages k zeros = ap (λ (b : Bool). is_stored pages k || b) zeros ∙ or_true (is_stored pages k)

or_none : (a : Bool) → a ≡ (a || false)
or_none true = refl
or_none false = refl

-- no bytes are made zero
none_touched : (offset count k : ℕ) → count ≡ 0 → false ≡ has_byte_of offset count k
none_touched offset count k none = rw none refl

none_whole : (size offset count k : ℕ) → count ≡ 0 → 4096 * k < size → lies_whole_in size offset count k ≡ false
none_whole size offset count k none below =
    elim (either (lies_whole_in size offset count k)) [
      | inr part ↦ part
      | inl whole ↦ let from : offset ≤ 4096 * k = grind (arith, nat_tests) in
          let to : min (4096 * k + 4096) size ≤ offset + count = grind (arith, nat_tests) in
          absurd (omega arith)
    ]

pub held_of_nothing : (pages : Pages) (offset count k : ℕ) (keep : Bool) → IsPaged pages → count ≡ 0
    → is_held pages k ≡ (if keep then is_held pages k || has_byte_of offset count k else is_held pages k && not (lies_whole_in pages.size offset count k))
held_of_nothing pages offset count k true is none = or_none (is_held pages k) ∙ ap (λ (b : Bool). is_held pages k || b) (none_touched offset count k none)
held_of_nothing pages offset count k false is none =
    elim (either (is_held pages k)) [
      | inl held ↦ and_not_false (is_held pages k) (lies_whole_in pages.size offset count k) (none_whole pages.size offset count k none (is.within k held))
      | inr free ↦ free ∙ ap (λ (b : Bool). b && not (lies_whole_in pages.size offset count k)) (sym free)
    ]

or_same : (a b c d : Bool) → a ≡ c → b ≡ d → (a || b) ≡ (c || d)
or_same a b c d e f = rw (e, f) refl

-- A range of an image was made zero.
module _ (old new : Pages) (offset count : ℕ) (is : IsPaged old) (size : new.size ≡ old.size) (some : 0 < count) (within : offset + count ≤ old.size)
    (stored : (k : ℕ) → stored_page new k ≡ zeroed old.size offset count k (stored_page old k)) where
  is_left : (k : ℕ) → is_stored new k ≡ (is_stored old k && not (lies_whole_in old.size offset count k))
  is_left k = ap is_some (stored k) ∙ some_zeroed old.size offset count k (stored_page old k)

  whole_page : (k : ℕ) → length (page_of new k) ≡ 4096
  whole_page k = ap (λ (p : Option (List ℕ)). length (shown p)) (stored k) ∙ length-zeroed old.size offset count k (stored_page old k) (is.whole k)

  pub kept_pages : (first end : ℕ) → ((k : ℕ) → is_between first end k ≡ (has_byte_of offset count k && not (is_stored old k && not (lies_whole_in old.size offset count k))))
      → ((k : ℕ) → is_held_zeros new k ≡ (if is_between first end k then true else is_held_zeros old k)) → (k : ℕ) → is_held new k ≡ (is_held old k || has_byte_of offset count k)
  kept_pages first end between zeros k =
      let touched : lies_whole_in old.size offset count k ≡ true → is_stored old k ≡ true → has_byte_of offset count k ≡ true =
      λ whole there. whole_touched old.size offset count k some (is.within k (rw there refl)) whole in
      or_same (is_stored new k) (is_held_zeros new k) _ _ (is_left k) (zeros k ∙ ap (λ (b : Bool). if b then true else is_held_zeros old k) (between k))
      ∙ kept_held (is_stored old k) (is_held_zeros old k) (has_byte_of offset count k) (lies_whole_in old.size offset count k) (is.apart k) touched

  pub IsPaged-kept : (first end : ℕ) → ((k : ℕ) → is_between first end k ≡ (has_byte_of offset count k && not (is_stored old k && not (lies_whole_in old.size offset count k))))
      → ((k : ℕ) → is_held_zeros new k ≡ (if is_between first end k then true else is_held_zeros old k)) → IsPaged new
  IsPaged-kept first end between zeros = record {
    whole = whole_page;
    within = λ k held. elim (either (has_byte_of offset count k)) [
      | inl touched ↦ let below = byte_places offset count k touched in omega (arith, size, below.1)
      | inr apart ↦ rw size (is.within k (grind (arith, kept_pages first end between zeros k)))
    ];
    apart = λ k there. zeros k ∙ ap (λ (b : Bool). if b then true else is_held_zeros old k) (between k)
        ∙ kept_apart (is_stored old k) (is_held_zeros old k) (has_byte_of offset count k) (lies_whole_in old.size offset count k) (is.apart k) (sym (is_left k) ∙ there);
  }

  pub given_pages : (first end : ℕ) → ((k : ℕ) → 4096 * k < old.size → is_between first end k ≡ lies_whole_in old.size offset count k)
      → ((k : ℕ) → is_held_zeros new k ≡ (if is_between first end k then false else is_held_zeros old k)) → (k : ℕ) → is_held new k ≡ (is_held old k && not (lies_whole_in old.size offset count k))
  given_pages first end between zeros k =
      or_same (is_stored new k) (is_held_zeros new k) _ _ (is_left k) (zeros k)
      ∙ elim (either (is_held old k)) [
        | inl held ↦ given_held (is_stored old k) (is_held_zeros old k) (is_between first end k) (lies_whole_in old.size offset count k) held (between k (is.within k held))
        | inr none ↦ none_given (is_stored old k) (is_held_zeros old k) (is_between first end k) (lies_whole_in old.size offset count k) none
      ]

  pub IsPaged-given : (first end : ℕ) → ((k : ℕ) → 4096 * k < old.size → is_between first end k ≡ lies_whole_in old.size offset count k)
      → ((k : ℕ) → is_held_zeros new k ≡ (if is_between first end k then false else is_held_zeros old k)) → IsPaged new
  IsPaged-given first end between zeros = record {
    whole = whole_page;
    within = λ k held. rw size (is.within k (grind (arith, given_pages first end between zeros k)));
    apart = λ k there. zeros k
        ∙ given_apart (is_stored old k) (is_held_zeros old k) (is_between first end k) (lies_whole_in old.size offset count k) (is.apart k) (sym (is_left k) ∙ there);
  }

-- a number or the next one, as a page there stays or doesn't
pub behind_it : (b stays : Bool) (n a : ℕ) → b ≡ stays → a ≡ (if b then n + 1 else n) → ((stays ≡ true) × (a ≡ n + 1)) ⊎ ((stays ≡ false) × (a ≡ n))
behind_it true stays n a same is = inl (sym same, is)
behind_it false stays n a same is = inr (sym same, is)

pub before_it : (b stays : Bool) (n a : ℕ) → b ≡ stays → a ≡ (if not b then n + 1 else n) → ((stays ≡ true) × (a ≡ n)) ⊎ ((stays ≡ false) × (a ≡ n + 1))
before_it true stays n a same is = inl (sym same, is)
before_it false stays n a same is = inr (sym same, is)

pub goes_whole : (a b : Bool) → b ≡ true → (a && not b) ≡ false
goes_whole a b whole = sym (and_not_true a b whole)

-- the pages that have a byte of a range and aren't stored once it is zero
pub emptied : (size offset count first last a e k : ℕ) (stays : ℕ → Bool) → 0 < count → offset + count ≤ size → first ≡ offset / 4096 → last ≡ (offset + count - 1) / 4096
    → ((j : ℕ) → lies_whole_in size offset count j ≡ true → stays j ≡ false)
    → ((stays first ≡ true) × (a ≡ first + 1)) ⊎ ((stays first ≡ false) × (a ≡ first)) → ((stays last ≡ true) × (e ≡ last)) ⊎ ((stays last ≡ false) × (e ≡ last + 1))
    → is_between a e k ≡ (has_byte_of offset count k && not (stays k))
emptied size offset count first last a e k stays some within begins ends goes after upto =
    elim (cases_lt k first) [
      | inl lt ↦ let apart : has_byte_of offset count k ≡ false = let past : 4096 * k + 4096 ≤ offset = omega arith in grind (arith, nat_tests) in
          let front : k < a = elim after [ inl p ↦ omega arith | inr p ↦ omega arith ] in
          rw (between_before a e k front, apart) refl
      | inr ge ↦ elim (cases_lt last k) [
        | inl gt ↦ let apart : has_byte_of offset count k ≡ false = let past : offset + count ≤ 4096 * k = omega arith in grind (arith, nat_tests) in
            let behind : e ≤ k = elim upto [ inl p ↦ omega arith | inr p ↦ omega arith ] in
            rw (between_behind a e k behind, apart) refl
        | inr le ↦ let touched : has_byte_of offset count k ≡ true = let from : offset < 4096 * k + 4096 = omega arith in let to : 4096 * k < offset + count = omega arith in grind (arith, nat_tests) in
            rw touched (elim (either (stays k)) [
              | inl stay ↦ rw stay (elim (cases_eq k first) [
                | inl e1 ↦ elim after [
                  | inl p ↦ between_before a e k (omega arith)
                  | inr p ↦ let bad : true ≡ false = sym stay ∙ ap stays e1 ∙ p.0 in absurd (cc)
                ]
                | inr apart ↦ elim (cases_eq k last) [
                  | inl e2 ↦ elim upto [
                    | inl p ↦ between_behind a e k (omega arith)
                    | inr p ↦ let bad : true ≡ false = sym stay ∙ ap stays e2 ∙ p.0 in absurd (cc)
                  ]
                  | inr inside ↦ let whole : lies_whole_in size offset count k ≡ true = let from : offset ≤ 4096 * k = omega arith in let to : min (4096 * k + 4096) size ≤ offset + count = omega arith in grind (arith, nat_tests) in
                      let bad : true ≡ false = sym stay ∙ goes k whole in absurd (cc)
                ]
              ])
              | inr goes_out ↦ rw goes_out (between_yes a e k
                  (elim after [ inl p ↦ elim (cases_eq k first) [ inl e1 ↦ let bad : true ≡ false = sym p.0 ∙ ap stays (sym e1) ∙ goes_out in absurd (cc) | inr apart ↦ omega arith ] | inr p ↦ omega arith ])
                  (elim upto [ inl p ↦ elim (cases_eq k last) [ inl e1 ↦ let bad : true ≡ false = sym p.0 ∙ ap stays (sym e1) ∙ goes_out in absurd (cc) | inr apart ↦ omega arith ] | inr p ↦ omega arith ]))
            ])
      ]
    ]

pub none_either : (b : Bool) (page : Option (List ℕ)) → page ≡ None → (if b then None else page) ≡ None
none_either true page none = refl
none_either false page none = none

-- The page of a number after the whole pages of a range are removed and those at its edges cleared.
module _ (size offset count first last start m n k : ℕ) (some : 0 < count) (within : offset + count ≤ size) (begins : first ≡ offset / 4096) (starts : start ≡ offset % 4096) (covers : m ≡ min count (4096 - start))
    (ends : last ≡ (offset + count - 1) / 4096) (rest : n ≡ offset + count - last * 4096) (was gone front back : Option (List ℕ)) (here : k ≡ first → front ≡ cleared start m gone) (others : k ≢ first → front ≡ gone)
    (there : k ≡ last → last ≢ first → back ≡ cleared 0 n front) (alone : last ≡ first → back ≡ front) (beside : k ≢ last → back ≡ front) where
  -- one that isn't there
  front_none : gone ≡ None → front ≡ None
  front_none none =
      elim (cases_eq k first) [
        | inl e ↦ here e ∙ ap (cleared start m) none
        | inr apart ↦ others apart ∙ none
      ]

  back_none : gone ≡ None → back ≡ None
  back_none none =
      elim (cases_eq k last) [
        | inr apart ↦ beside apart ∙ front_none none
        | inl e ↦ elim (cases_eq last first) [
          | inl one ↦ alone one ∙ front_none none
          | inr two ↦ there e two ∙ ap (cleared 0 n) (front_none none)
        ]
      ]

  -- one at the first edge, and one at the last
  at_first : gone ≡ was → k ≡ first → lies_whole_in size offset count k ≡ false → back ≡ zeroed size offset count k was
  at_first stays e part =
      let same : back ≡ front = elim (cases_eq last first) [ inl one ↦ alone one | inr two ↦ beside (λ l. two (sym l ∙ e)) ] in
      let begin : start ≡ offset - 4096 * k = omega arith in
      let many : m ≡ min (offset + count - 4096 * k) 4096 - (offset - 4096 * k) = omega arith in
      same ∙ here e ∙ ap (cleared start m) stays ∙ zeroed_part size offset count k start m was part begin many

  at_last : gone ≡ was → k ≢ first → k ≡ last → lies_whole_in size offset count k ≡ false → back ≡ zeroed size offset count k was
  at_last stays apart e part =
      let begin : 0 ≡ offset - 4096 * k = omega arith in
      let many : n ≡ min (offset + count - 4096 * k) 4096 - (offset - 4096 * k) = omega arith in
      there e (λ one. apart (e ∙ one)) ∙ ap (cleared 0 n) (others apart ∙ stays) ∙ zeroed_part size offset count k 0 n was part begin many

  at_neither : gone ≡ was → has_byte_of offset count k ≡ false → lies_whole_in size offset count k ≡ false → back ≡ zeroed size offset count k was
  at_neither stays untouched part =
      let not_first : k ≢ first = λ e. elim (untouched_at offset count k some untouched) [ inl before ↦ omega arith | inr behind ↦ omega arith ] in
      let not_last : k ≢ last = λ e. elim (untouched_at offset count k some untouched) [ inl before ↦ omega arith | inr behind ↦ omega arith ] in
      beside not_last ∙ others not_first ∙ stays ∙ sym (zeroed_apart size offset count k was some untouched part)

  at_edge : gone ≡ was → has_byte_of offset count k ≡ true → lies_whole_in size offset count k ≡ false → back ≡ zeroed size offset count k was
  at_edge stays touched part =
      let edge = edge_at size offset count k within touched part in
      elim (cases_eq k first) [
        | inl e ↦ at_first stays e part
        | inr apart ↦ at_last stays apart (elim edge.2 [ inl front_edge ↦ absurd (apart (omega (arith, edge.0, edge.1))) | inr back_edge ↦ omega (arith, edge.0, edge.1) ]) part
      ]

  not_there : (page : Option (List ℕ)) → (is_some page ≡ true → ⊥) → page ≡ None
  not_there None never = refl
  not_there (Some page) never = absurd (never refl)

  pub page_zeroed : (is_some was ≡ true → 4096 * k < size) → (4096 * k < size → gone ≡ (if lies_whole_in size offset count k then None else was)) → (was ≡ None → gone ≡ None) → back ≡ zeroed size offset count k was
  page_zeroed inside removed absent =
      elim (cases_lt (4096 * k) size) [
        | inr beyond ↦ let none : was ≡ None = not_there was (λ stored. let lt : 4096 * k < size = inside stored in omega arith) in
            back_none (absent none) ∙ sym (zeroed_none size offset count k) ∙ ap (zeroed size offset count k) (sym none)
        | inl lt ↦ elim (either (lies_whole_in size offset count k)) [
          | inl whole ↦ back_none (removed lt ∙ ap (λ (b : Bool). if b then None else was) whole) ∙ sym (zeroed_whole size offset count k was whole)
          | inr part ↦ let stays : gone ≡ was = removed lt ∙ ap (λ (b : Bool). if b then None else was) part in
              elim (either (has_byte_of offset count k)) [
                | inl touched ↦ at_edge stays touched part
                | inr untouched ↦ at_neither stays untouched part
              ]
        ]
      ]

-- the same of all numbers
pub all_zeroed : (size offset count first last start m n begin end : ℕ) → 0 < count → offset + count ≤ size → first ≡ offset / 4096 → start ≡ offset % 4096 → m ≡ min count (4096 - start)
    → last ≡ (offset + count - 1) / 4096 → n ≡ offset + count - last * 4096 → (was gone front back : ℕ → Option (List ℕ))
    → ((k : ℕ) → 4096 * k < size → is_between begin end k ≡ lies_whole_in size offset count k) → ((k : ℕ) → gone k ≡ (if is_between begin end k then None else was k))
    → front first ≡ cleared start m (gone first) → ((k : ℕ) → k ≢ first → front k ≡ gone k)
    → (last ≢ first → back last ≡ cleared 0 n (front last)) → (last ≡ first → (k : ℕ) → back k ≡ front k) → ((k : ℕ) → k ≢ last → back k ≡ front k)
    → ((k : ℕ) → is_some (was k) ≡ true → 4096 * k < size) → (k : ℕ) → back k ≡ zeroed size offset count k (was k)
all_zeroed size offset count first last start m n begin end some within begins starts covers ends rest was gone front back between removed here others there alone beside inside k =
    page_zeroed size offset count first last start m n k some within begins starts covers ends rest (was k) (gone k) (front k) (back k)
    (λ e. ap front e ∙ here ∙ ap (λ (j : ℕ). cleared start m (gone j)) (sym e)) (others k)
    (λ e two. ap back e ∙ there two ∙ ap (λ (j : ℕ). cleared 0 n (front j)) (sym e)) (λ one. alone one k) (beside k)
    (inside k) (λ lt. removed k ∙ ap (λ (b : Bool). if b then None else was k) (between k lt)) (λ none. removed k ∙ none_either (is_between begin end k) (was k) none)
