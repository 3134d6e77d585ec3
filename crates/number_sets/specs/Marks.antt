-- Sets of numbers in bitmaps of 16,384 in a row, each of which is known by its number.
use Rattle.std.specs.Prelude.{◌≡◌, ℕ, ◌/◌, ◌%◌, Bool, true, unwrap_or, Option, IfSome, List, []}
use Rattle.std.specs.Ordering.{nat_cmp}
use Rattle.std.specs.BTreeMap.{is_at}
use Rattle.std.specs.Map.{lookup}
use Rattle.number_sets.specs.Bits.{is_set, any_set}

-- the bitmap of a number
abbrev pub bitmap_of : List (ℕ × List ℕ) → ℕ → Option (List ℕ)
bitmap_of bitmaps number = lookup (is_at (nat_cmp number)) bitmaps

-- whether a number is a member
unfoldable pub is_marked : List (ℕ × List ℕ) → ℕ → Bool
is_marked bitmaps number = is_set (unwrap_or (bitmap_of bitmaps (number / 16384)) []) (number % 16384)

-- each bitmap that is there has a member
abbrev pub AreUsed : List (ℕ × List ℕ) → Type 0
AreUsed bitmaps = (number : ℕ) → IfSome (bitmap_of bitmaps number) (λ words. any_set words ≡ true)
