-- Bytes that are the same in parts.
use Rattle.std.proofs.Common.{◌≡◌, ℕ, ◌+◌, ◌-◌, ◌≤◌, List, ◌++◌, length, take, drop, sym, ap, ◌∙◌, arith, rules}
use Rattle.std.proofs.lemmas.List.{places, same_lists}
use Rattle.payload.specs.Bytes.{range_of, overwritten}
use Rattle.payload.proofs.Overwriting.{range_of-in_two}
use Rattle.payload.proofs.RowLemmas.{range_of-range_of}

-- the next parts of two ranges
pub same-next : (bytes piece : List ℕ) (start from done n : ℕ) → start + (done + n) ≤ length bytes → from + (done + n) ≤ length piece
    → range_of bytes start done ≡ range_of piece from done → range_of bytes (start + done) n ≡ range_of piece (from + done) n
    → range_of bytes start (done + n) ≡ range_of piece from (done + n)
same-next bytes piece start from done n fits within before next =
    range_of-in_two bytes start done n fits
    ∙ ap (λ (xs : List ℕ). xs ++ range_of bytes (start + done) n) before
    ∙ ap (λ (xs : List ℕ). range_of piece from done ++ xs) next
    ∙ sym (range_of-in_two piece from done n within)

-- parts of two ranges that are the same
pub same-part : (bytes piece : List ℕ) (start from count done n : ℕ) → done + n ≤ count → range_of bytes start count ≡ range_of piece from count
    → range_of bytes (start + done) n ≡ range_of piece (from + done) n
same-part bytes piece start from count done n upto same =
    sym (range_of-range_of bytes start count done n upto) ∙ ap (λ (xs : List ℕ). range_of xs done n) same ∙ range_of-range_of piece from count done n upto

-- all that is left
rest_of : (bytes : List ℕ) (at : ℕ) → at ≤ length bytes → take (length bytes - at) (drop at bytes) ≡ drop at bytes
rest_of bytes at within = same_lists _ _ (search (rules, places)) (λ k d h. grind (arith, places))

-- Bytes put over those of a page.
module _ (old bytes : List ℕ) (start count : ℕ) (fits : start + count ≤ length old) (long : length bytes ≡ count) where
  pub middle_of : range_of (overwritten old start count bytes) start count ≡ bytes
  middle_of = same_lists _ _ (search (rules, places)) (λ k d h. grind (arith, places))

  in_three : (new : List ℕ) → length new ≡ length old → new ≡ take start new ++ range_of new start count ++ drop (start + count) new
  in_three new same = same_lists _ _ (search (rules, places)) (λ k d h. grind (arith, places))

  pub put_together : (new : List ℕ) → length new ≡ length old → take start new ≡ take start old
      → take (length new - (start + count)) (drop (start + count) new) ≡ take (length old - (start + count)) (drop (start + count) old)
      → range_of new start count ≡ bytes → new ≡ overwritten old start count bytes
  put_together new same front back middle =
      in_three new same
      ∙ ap (λ (xs : List ℕ). xs ++ range_of new start count ++ drop (start + count) new) front
      ∙ ap (λ (xs : List ℕ). take start old ++ xs ++ drop (start + count) new) middle
      ∙ ap (λ (xs : List ℕ). take start old ++ bytes ++ xs) (sym (rest_of new (start + count) (omega (arith, same, fits))) ∙ back ∙ rest_of old (start + count) fits)
