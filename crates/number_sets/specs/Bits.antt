-- Sets of numbers as bits, 64 in a word, the lowest of the first word for 0.
use Rattle.std.specs.Prelude.{ℕ, ◌/◌, ◌%◌, Bool, ◌&&◌, ◌==◌, not, nat_lt, nat_le, List, get_or, length}
use Rattle.std.specs.Int.{bit_at}
use Rattle.std.specs.List.{list_any, filter, range_with_len}

-- whether a number is a member
abbrev pub is_set : List ℕ → ℕ → Bool
is_set words number = bit_at (get_or words (number / 64) 0) (number % 64) == 1

-- whether there is any
abbrev pub any_set : List ℕ → Bool
any_set words = list_any (λ word. not (word == 0)) words

-- whether a number is one of those from the first on before an end
abbrev pub is_between : ℕ → ℕ → ℕ → Bool
is_between first end number = nat_le first number && nat_lt number end

-- how many of so many numbers from one on pass a test
unfoldable pub count_of : (ℕ → Bool) → ℕ → ℕ → ℕ
count_of test first count = length (filter test (range_with_len first count))
