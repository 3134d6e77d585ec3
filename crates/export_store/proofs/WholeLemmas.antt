-- Whole pages that are put in the place of others of an image.
use Rattle.std.proofs.Common.{◌≡◌, ℕ, ◌+◌, ◌-◌, ◌*◌, ◌/◌, ◌%◌, ◌<◌, ◌≤◌, inl, inr, Bool, true, false, ◌||◌, is_some, Option, Some, List, [], length, get_or, if◌then◌else◌, refl, sym, ap, ◌∙◌, arith}
use Rattle.std.specs.List.{concat}
use Rattle.std.proofs.lemmas.Bool.{cases_Bool}
use Rattle.std.proofs.lemmas.Bool.Decides.{nat_tests}
use Rattle.payload.specs.Bytes.{range_of, overwritten}
use Rattle.payload.specs.Rows.{AreWhole}
use Rattle.payload.proofs.RowLemmas.{length-concat, range_in_page, range_of-page}
use Rattle.number_sets.specs.Bits.{is_between}
use Rattle.number_sets.proofs.RangeLemmas.{between_from, between_to}
use Rattle.page_table.specs.Table.{Stored, in_table, put_from}
use Rattle.export_store.specs.Pages.{Pages, IsPaged, stored_page, is_stored, is_held_zeros, is_held, page_of, image_of, part_in, page_after, has_byte_of}
use Rattle.export_store.proofs.ImageLemmas.{shown}
use Rattle.export_store.proofs.RangeLemmas.{has_byte}
use Rattle.export_store.proofs.PieceLemmas.{page_whole, untouched, length-page_after, image_after}

-- the pages have bytes, so each of their places is in the range
pub place_in_range : (pages : List (List ℕ)) (offset count j : ℕ) → AreWhole pages → offset % 4096 ≡ 0 → count ≡ length (concat pages) → j < length pages
    → has_byte_of offset count (offset / 4096 + j) ≡ true
place_in_range pages offset count j whole paged is below =
    let long : count ≡ 4096 * length pages = is ∙ length-concat pages whole in
    has_byte offset count (offset / 4096 + j) (omega (arith, long, below)) (omega arith) (omega (arith, long, below, paged))

-- what is so in so many places from one on is so in each between
pub so_between : (test : ℕ → Bool) (first n k : ℕ) → ((j : ℕ) → j < n → test (first + j) ≡ true) → is_between first (first + n) k ≡ true → test k ≡ true
so_between test first n k all inside =
    let above : first ≤ k = between_from first (first + n) k inside in
    let below : k < first + n = between_to first (first + n) k inside in
    let place : k ≡ first + (k - first) = omega arith in
    ap test place ∙ all (k - first) (omega arith)

-- the page of a piece of whole pages that is written, and one beside it
page_of_piece : (pages : List (List ℕ)) (offset k : ℕ) (page : List ℕ) → AreWhole pages → offset % 4096 ≡ 0 → length page ≡ 4096 → offset / 4096 ≤ k → k < offset / 4096 + length pages
    → page_after offset (concat pages) k page ≡ get_or pages (k - offset / 4096) []
page_of_piece pages offset k page whole paged is above below =
    let number : ℕ = k - offset / 4096 in
    let there : number < length pages = omega arith in
    let begin : 4096 * k - offset ≡ 4096 * number + 0 = omega arith in
    let all : 4096 - (offset - 4096 * k) ≡ 4096 = omega arith in
    let part : part_in offset (concat pages) k ≡ get_or pages number [] =
    ap (λ (at : ℕ). range_of (concat pages) at (4096 - (offset - 4096 * k))) begin
    ∙ ap (λ (n : ℕ). range_of (concat pages) (4096 * number + 0) n) all
    ∙ range_in_page pages whole number 0 4096 [] there (omega arith)
    ∙ range_of-page (get_or pages number []) (whole number [] there) in
    page_whole offset (concat pages) k page is (ap length part ∙ whole number [] there) ∙ part

page_beside : (pages : List (List ℕ)) (offset k : ℕ) (page : List ℕ) → AreWhole pages → offset % 4096 ≡ 0 → is_between (offset / 4096) (offset / 4096 + length pages) k ≡ false
    → page_after offset (concat pages) k page ≡ page
page_beside pages offset k page whole paged out =
    let long : length (concat pages) ≡ 4096 * length pages = length-concat pages whole in
    let apart : has_byte_of offset (length (concat pages)) k ≡ false = grind (arith, nat_tests) in
    untouched offset (concat pages) k page apart

-- the new pages are the old ones, but that these are stored in place of those that were from an offset on
pub record Puts (old new : Pages) (offset : ℕ) (pages : List (List ℕ)) : Type 0 where
  pub paged : offset % 4096 ≡ 0
  pub whole : AreWhole pages
  pub stored : (j : ℕ) → j < length pages → is_stored old (offset / 4096 + j) ≡ true
  pub size : new.size ≡ old.size
  pub zeros : (k : ℕ) → is_held_zeros new k ≡ is_held_zeros old k
  pub put : (k : ℕ) → stored_page new k ≡ put_from (offset / 4096) pages (stored_page old) k

-- as the fields of an image were found, where `now` is what contracts see of it, and `row` are the pages
pub puts : (size : ℕ) (m n : Stored) (z : List (ℕ × List ℕ)) (now : Pages) (offset : ℕ) (pages row : List (List ℕ)) → record { size = size; chunks = m; zeros = z } ≡ now → row ≡ pages → offset % 4096 ≡ 0 → AreWhole pages
    → ((j : ℕ) → j < length pages → is_stored now (offset / 4096 + j) ≡ true) → ((k : ℕ) → in_table n k ≡ put_from (offset / 4096) row (in_table m) k)
    → Puts (record { size = size; chunks = m; zeros = z }) (record { size = size; chunks = n; zeros = z }) offset pages
puts size m n z now offset pages row seen is paged whole stored put = record {
  paged = paged;
  whole = whole;
  stored = λ j below. ap (λ (p : Pages). is_stored p (offset / 4096 + j)) seen ∙ stored j below;
  size = refl;
  zeros = λ k. refl;
  put = λ k. put k ∙ ap (λ (rows : List (List ℕ)). put_from (offset / 4096) rows (in_table m) k) is;
}

module _ (old new : Pages) (offset : ℕ) (pages : List (List ℕ)) (puts : Puts old new offset pages) where
  put_or_not : (k : ℕ) (b : Bool) → is_between (offset / 4096) (offset / 4096 + length pages) k ≡ b → stored_page new k ≡ (if b then Some (get_or pages (k - offset / 4096) []) else stored_page old k)
  put_or_not k b is = puts.put k ∙ ap {B = Option (List ℕ)} (λ (c : Bool). if c then Some (get_or pages (k - offset / 4096) []) else stored_page old k) is

  page_put : IsPaged old → (k : ℕ) → page_of new k ≡ page_after offset (concat pages) k (page_of old k)
  page_put is k =
      elim (cases_Bool (is_between (offset / 4096) (offset / 4096 + length pages) k)) [
        | inl inside ↦ ap shown (put_or_not k true inside) ∙ sym (page_of_piece pages offset k (page_of old k) puts.whole puts.paged (is.whole k) (between_from _ _ k inside) (between_to _ _ k inside))
        | inr out ↦ ap shown (put_or_not k false out) ∙ sym (page_beside pages offset k (page_of old k) puts.whole puts.paged out)
      ]

  stored_put : (k : ℕ) → is_stored new k ≡ is_stored old k
  stored_put k =
      elim (cases_Bool (is_between (offset / 4096) (offset / 4096 + length pages) k)) [
        | inl inside ↦ ap is_some (put_or_not k true inside) ∙ sym (so_between (is_stored old) (offset / 4096) (length pages) k puts.stored inside)
        | inr out ↦ ap is_some (put_or_not k false out)
      ]

  pub held_put : (k : ℕ) → is_held new k ≡ is_held old k
  held_put k = ap (λ (b : Bool). b || is_held_zeros new k) (stored_put k) ∙ ap (λ (b : Bool). is_stored old k || b) (puts.zeros k)

  pub IsPaged-put : IsPaged old → IsPaged new
  IsPaged-put is = record {
    whole = λ k. ap length (page_put is k) ∙ length-page_after offset (concat pages) k (page_of old k) (is.whole k);
    within = λ k held. rw puts.size (is.within k (sym (held_put k) ∙ held));
    apart = λ k there. puts.zeros k ∙ is.apart k (sym (stored_put k) ∙ there);
  }

  pub image_put : IsPaged old → offset + length (concat pages) ≤ length (image_of old) → image_of new ≡ overwritten (image_of old) offset (length (concat pages)) (concat pages)
  image_put is within = image_after old new offset (concat pages) is puts.size within (page_put is)
