-- Numbers in decimal digits.
use Rattle.std.specs.Prelude.{ℕ, ◌+◌, ◌-◌, ◌*◌, if◌then◌else◌, List, [], ◌∷◌, Option, Some, None, nat_lt}
use Rattle.std.specs.Char.{is_ascii_digit}

-- what these decimal digits say behind others that say the value
unfoldable pub number_behind : ℕ → List ℕ → Option ℕ
number_behind value [] = Some value
number_behind value (digit ∷ more) = if is_ascii_digit digit then number_behind (value * 10 + (digit - 48)) more else None

-- what a text says as a number in decimal digits. One without digits says none
abbrev pub written_number : List ℕ → Option ℕ
written_number [] = None
written_number (digit ∷ more) = number_behind 0 (digit ∷ more)

-- the number, if it is below the bound
abbrev pub below : ℕ → Option ℕ → Option ℕ
below bound None = None
below bound (Some n) = if nat_lt n bound then Some n else None

-- the number that a text says, if it is below the bound
abbrev pub number_below : ℕ → List ℕ → Option ℕ
number_below bound digits = below bound (written_number digits)
