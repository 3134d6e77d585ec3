-- Writes to a list of bytes one after another, and reads of parts that lie side by side.
use Rattle.std.proofs.Common.{◌≡◌, ℕ, ◌+◌, ◌-◌, ◌≤◌, List, ◌++◌, length, take, replicate, min, arith, rules}
use Rattle.std.proofs.lemmas.List.{places, same_lists}
use Rattle.payload.specs.Bytes.{range_of, overwritten}

-- the next part of a range is made zero
pub zeroed-next : (image : List ℕ) (at n end : ℕ) → at + n ≤ end → end ≤ length image
    → overwritten (overwritten image at n (replicate n 0)) (at + n) (end - (at + n)) (replicate (end - (at + n)) 0) ≡ overwritten image at (end - at) (replicate (end - at) 0)
zeroed-next image at n end some within = same_lists _ _ (search (rules, places)) (λ k d h. grind (arith, places))

-- the next part of a range is read
pub range_of-next : (image : List ℕ) (at n end : ℕ) → at + n ≤ end → end ≤ length image → range_of image at n ++ range_of image (at + n) (end - (at + n)) ≡ range_of image at (end - at)
range_of-next image at n end some within = same_lists _ _ (search (rules, places)) (λ k d h. grind (arith, places))

-- a range in two parts
pub range_of-in_two : (bytes : List ℕ) (at m n : ℕ) → at + (m + n) ≤ length bytes → range_of bytes at (m + n) ≡ range_of bytes at m ++ range_of bytes (at + m) n
range_of-in_two bytes at m n within = same_lists _ _ (search (rules, places)) (λ k d h. grind (arith, places))

-- a range of zeros that is made zero
pub zeros_stay : (size at n : ℕ) → at + n ≤ size → overwritten (replicate size 0) at n (replicate n 0) ≡ replicate size 0
zeros_stay size at n within = same_lists _ _ (search (rules, places)) (λ k d h. grind (arith, places))

-- a range of zeros
pub range_of-zeros : (size at n : ℕ) → at + n ≤ size → range_of (replicate size 0) at n ≡ replicate n 0
range_of-zeros size at n within = same_lists _ _ (search (rules, places)) (λ k d h. grind (arith, places))

-- a whole list that is replaced
pub overwritten-all : (image bytes : List ℕ) → length image ≡ length bytes → overwritten image 0 (length bytes) bytes ≡ bytes
overwritten-all image bytes same = same_lists _ _ (search (rules, places)) (λ k d h. grind (arith, places))

-- a write within a front of the list
pub take-overwritten : (size : ℕ) (image bytes : List ℕ) (at : ℕ) → at + length bytes ≤ size → size ≤ length image
    → take size (overwritten image at (length bytes) bytes) ≡ overwritten (take size image) at (length bytes) bytes
take-overwritten size image bytes at within long = same_lists _ _ (search (rules, places)) (λ k d h. grind (arith, places))

-- a range within a front of the list
pub range_of-take : (size : ℕ) (image : List ℕ) (at n : ℕ) → at + n ≤ size → size ≤ length image → range_of (take size image) at n ≡ range_of image at n
range_of-take size image at n within long = same_lists _ _ (search (rules, places)) (λ k d h. grind (arith, places))

-- what was made zero inside a range that is then made zero, where the list is cut between
pub zeroed_front : (size : ℕ) (image : List ℕ) (at n offset count : ℕ) → offset ≤ at → min (at + n) size ≤ offset + count → offset + count ≤ size → size ≤ length image → at + n ≤ length image
    → overwritten (take size (overwritten image at n (replicate n 0))) offset count (replicate count 0) ≡ overwritten (take size image) offset count (replicate count 0)
zeroed_front size image at n offset count above below within long all = same_lists _ _ (search (rules, places)) (λ k d h. grind (arith, places))
