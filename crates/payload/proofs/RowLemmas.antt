-- Pages in a row: how long they are, and a range that lies in one of them.
use Rattle.std.proofs.Common.{◌≡◌, ℕ, zero, suc, ◌+◌, ◌-◌, ◌*◌, ◌/◌, ◌%◌, ◌<◌, ◌≤◌, List, [], ◌∷◌, ◌++◌, length, take, drop, get_or, refl, sym, ap, ◌∙◌, arith, rules, length-append}
use Rattle.std.specs.List.{concat}
use Rattle.std.proofs.lemmas.List.{places, same_lists, drop-take, length-replicate, append-nil, take_all}
use Rattle.std.proofs.lemmas.List.Folds.{concat-append}
use Rattle.std.proofs.lemmas.List.Elements.{All-append}
use Rattle.payload.specs.Bytes.{range_of, overwritten}
use Rattle.payload.specs.Rows.{zero_page, AreWhole, IsRange}
use Rattle.payload.proofs.BytesLemmas.{length-range_of}
use Rattle.payload.proofs.Overwriting.{overwritten-all}

pub length-zero_page : length zero_page ≡ 4096
unfolding zero_page
length-zero_page = length-replicate {A = ℕ} 4096 0

pub length-concat : (pages : List (List ℕ)) → AreWhole pages → length (concat pages) ≡ 4096 * length pages
length-concat [] whole = refl
length-concat (page ∷ pages) whole =
    omega (arith, length-append page (concat pages), whole 0 [] (omega arith), length-concat pages (λ k d h. whole (suc k) d (omega arith)))

-- a range of a range
pub range_of-range_of : (bytes : List ℕ) (start count at n : ℕ) → at + n ≤ count → range_of (range_of bytes start count) at n ≡ range_of bytes (start + at) n
range_of-range_of bytes start count at n within = same_lists _ _ (search (rules, places)) (λ k d h. grind (arith, places))

range_of-front : (front back : List ℕ) (at n : ℕ) → at + n ≤ length front → range_of (front ++ back) at n ≡ range_of front at n
range_of-front front back at n within = same_lists _ _ (search (rules, places)) (λ k d h. grind (arith, places))

range_of-back : (front back : List ℕ) (start at n : ℕ) → length front ≡ start → range_of (front ++ back) (start + at) n ≡ range_of back at n
range_of-back front back start at n is = same_lists _ _ (search (rules, places)) (λ k d h. grind (arith, places))

-- a range that lies in one page
pub range_in_page : (pages : List (List ℕ)) → AreWhole pages → (number start n : ℕ) (d : List ℕ) → number < length pages → start + n ≤ 4096
    → range_of (concat pages) (4096 * number + start) n ≡ range_of (get_or pages number d) start n
range_in_page [] whole number start n d below within = absurd (omega arith)
range_in_page (page ∷ pages) whole zero start n d below within =
    let place : 4096 * zero + start ≡ start = omega arith in
    rw place (range_of-front page (concat pages) start n (omega (arith, whole 0 [] (omega arith))))
range_in_page (page ∷ pages) whole (suc number) start n d below within =
    let place : 4096 * suc number + start ≡ 4096 + (4096 * number + start) = omega arith in
    rw place (range_of-back page (concat pages) 4096 (4096 * number + start) n (whole 0 [] (omega arith)))
    ∙ range_in_page pages (λ k e h. whole (suc k) e (omega arith)) number start n d (omega arith) within

-- a page is all of itself
pub range_of-page : (page : List ℕ) → length page ≡ 4096 → range_of page 0 4096 ≡ page
range_of-page page whole = take_all 4096 page (omega (arith, whole))

-- pages in a row are all of their bytes
pub all_pages : (pages : List (List ℕ)) (start end : ℕ) → AreWhole pages → start ≡ 0 → end % 4096 ≡ 0 → end / 4096 ≡ length pages → concat pages ≡ range_of (concat pages) start (end - start)
all_pages pages start end whole none paged all =
    let count : end - start ≡ end = omega (arith, none) in
    rw (count, none) (sym (take_all end (concat pages) (omega (arith, length-concat pages whole, paged, all))))

-- where a byte of a payload lies
module _ (pages : List (List ℕ)) (start end : ℕ) (is : IsRange pages start end) (bytes : List ℕ) (view : range_of (concat pages) start (end - start) ≡ bytes) where
  pub length-payload : length bytes ≡ end - start
  length-payload = ap length (sym view) ∙ length-range_of (concat pages) start (end - start) (omega (arith, is.ordered, is.within))

  pub place_before : (at : ℕ) → at < length bytes → start + at < end
  place_before at below = omega (arith, length-payload, is.ordered)

  pub page_there : (at : ℕ) → at < length bytes → (start + at) / 4096 < length pages
  page_there at below = omega (arith, place_before at below, is.within, length-concat pages is.whole)

  pub range_from : (at n : ℕ) (d : List ℕ) → at < length bytes → at + n ≤ length bytes → (start + at) % 4096 + n ≤ 4096
      → range_of bytes at n ≡ range_of (get_or pages ((start + at) / 4096) d) ((start + at) % 4096) n
  range_from at n d some within fits =
      let place : start + at ≡ 4096 * ((start + at) / 4096) + (start + at) % 4096 = omega arith in
      ap (λ (list : List ℕ). range_of list at n) (sym view)
      ∙ range_of-range_of (concat pages) start (end - start) at n (omega (arith, length-payload))
      ∙ ap (λ (from : ℕ). range_of (concat pages) from n) place
      ∙ range_in_page pages is.whole ((start + at) / 4096) ((start + at) % 4096) n d (page_there at some) fits

-- one more page in a row
pub concat-next : (pages : List (List ℕ)) (page : List ℕ) → concat (pages ++ page ∷ []) ≡ concat pages ++ page
concat-next pages page = concat-append pages (page ∷ []) ∙ ap (λ (last : List ℕ). concat pages ++ last) (append-nil page)

pub AreWhole-next : (pages : List (List ℕ)) (page : List ℕ) → AreWhole pages → length page ≡ 4096 → AreWhole (pages ++ page ∷ [])
AreWhole-next pages page whole long = All-append (λ (p : List ℕ). length p ≡ 4096) pages (page ∷ []) whole (search rules)

-- a whole page is replaced
pub whole_over : (page bytes : List ℕ) (start count : ℕ) → length page ≡ 4096 → length bytes ≡ 4096 → start + count ≤ 4096 → count ≡ 4096 → overwritten page start count bytes ≡ bytes
whole_over page bytes start count is long fits all =
    let first : start ≡ 0 = omega arith in
    rw (first, all ∙ sym long) (overwritten-all page bytes (is ∙ sym long))

-- the front of a range
pub take-range_of : (bytes : List ℕ) (at m n : ℕ) → n ≤ m → take n (range_of bytes at m) ≡ range_of bytes at n
take-range_of bytes at m n within = same_lists _ _ (search (rules, places)) (λ k d h. grind (arith, places))

-- what lies behind a start, of bytes that have these at their front
pub behind_start : (bytes front : List ℕ) (start end : ℕ) → take (length front) bytes ≡ front → length front ≡ end → start ≤ end → range_of bytes start (end - start) ≡ drop start front
behind_start bytes front start end is long within =
    let whole : start + (end - start) ≡ length front = omega (arith, long, within) in
    sym (drop-take start (end - start) bytes)
    ∙ ap (λ (count : ℕ). drop start (take count bytes)) whole
    ∙ ap (λ (list : List ℕ). drop start list) is

-- the front of bytes that end with none, and of some that more lie behind
pub take-none_behind : (front last : List ℕ) → length last ≡ 0 → take (length (front ++ last)) front ≡ front ++ last
take-none_behind front last none = same_lists _ _ (search (rules, places)) (λ k d h. grind (arith, places))

pub take-more_behind : (front last more : List ℕ) → take (length (front ++ last)) (front ++ (last ++ more)) ≡ front ++ last
take-more_behind front last more = same_lists _ _ (search (rules, places)) (λ k d h. grind (arith, places))
