-- An image in one piece after each part of a payload is written.
use Rattle.std.proofs.Common.{◌≡◌, ℕ, ◌+◌, ◌≤◌, List, length, take, arith, rules}
use Rattle.std.proofs.lemmas.List.{places, same_lists}
use Rattle.payload.specs.Bytes.{range_of, overwritten}

-- nothing is written yet
pub none_written : (image piece : List ℕ) (offset : ℕ) → offset ≤ length image → image ≡ overwritten image offset 0 (take 0 piece)
none_written image piece offset within = same_lists _ _ (search (rules, places)) (λ k d h. grind (arith, places))

-- the next part
pub part_written : (image piece : List ℕ) (offset at n : ℕ) → offset + length piece ≤ length image → at + n ≤ length piece
    → overwritten (overwritten image offset at (take at piece)) (offset + at) n (range_of piece at n) ≡ overwritten image offset (at + n) (take (at + n) piece)
part_written image piece offset at n within some = same_lists _ _ (search (rules, places)) (λ k d h. grind (arith, places))
