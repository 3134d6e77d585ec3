-- How long a range and an overwritten image are.
use Rattle.std.proofs.Common.{◌≡◌, ℕ, ◌+◌, ◌≤◌, List, length, arith, length-append, length-drop}
use Rattle.std.proofs.lemmas.List.{length-take}
use Rattle.payload.specs.Bytes.{range_of, overwritten}

pub length-range_of : (image : List ℕ) (offset count : ℕ) → offset + count ≤ length image → length (range_of image offset count) ≡ count
length-range_of image offset count within = grind (arith, length-take, length-drop)

-- as long as it was
pub length-overwritten : (image : List ℕ) (offset count : ℕ) (bytes : List ℕ) → offset + count ≤ length image → length bytes ≡ count → length (overwritten image offset count bytes) ≡ length image
length-overwritten image offset count bytes within same = grind (arith, length-append, length-take, length-drop)
