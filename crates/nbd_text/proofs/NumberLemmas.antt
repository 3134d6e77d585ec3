-- Numbers in decimal digits, one digit after the other.
use Rattle.std.proofs.Common.{◌≡◌, ℕ, ◌+◌, ◌-◌, ◌*◌, ◌<◌, ◌≤◌, ◌==◌, nat_lt, Bool, true, false, List, [], ◌∷◌, length, drop, slice_index_or, Option, Some, None, refl, arith}
use Rattle.std.proofs.lemmas.List.{drop_more}
use Rattle.std.proofs.Math.ListN.{drop_of_length-le}
use Rattle.std.specs.Prelude.{IfSome, if◌then◌else◌}
use Rattle.std.specs.Char.{is_ascii_digit}
use Rattle.nbd_text.specs.Numbers.{number_behind, written_number, below}

-- a text that isn't empty
pub written_whole : (digits : List ℕ) → (length digits == 0) ≡ false → written_number digits ≡ number_behind 0 digits
written_whole [] some = absurd (grind arith)
written_whole (digit ∷ more) some = refl

-- at the end of the digits
pub number_end : (digits : List ℕ) (i value : ℕ) → length digits ≤ i → number_behind value (drop i digits) ≡ Some value
unfolding number_behind
number_end digits i value end = rw (drop_of_length-le digits end) refl

-- the digit at a place
pub number_more : (digits : List ℕ) (i value next : ℕ) → i < length digits → is_ascii_digit (slice_index_or digits i 0) ≡ true
    → next ≡ value * 10 + (slice_index_or digits i 0 - 48) → number_behind next (drop (i + 1) digits) ≡ number_behind value (drop i digits)
unfolding number_behind
number_more digits i value next within is more = rw (drop_more digits i 0 within, is, more) refl

-- digits behind a value say no less than it
pub number_grows : (value : ℕ) (more : List ℕ) → IfSome (number_behind value more) (λ n. value ≤ n)
unfolding number_behind
number_grows value [] = omega arith
number_grows value (digit ∷ more) = chosen (is_ascii_digit digit) (raised _ (number_grows (value * 10 + (digit - 48)) more))
  where
    next : Option ℕ
    next = number_behind (value * 10 + (digit - 48)) more

    raised : (o : Option ℕ) → IfSome o (λ n. value * 10 + (digit - 48) ≤ n) → IfSome o (λ n. value ≤ n)
    raised None h = h
    raised (Some n) h = omega (arith, h)

    chosen : (is : Bool) → IfSome next (λ n. value ≤ n) → IfSome (if is then next else None) (λ n. value ≤ n)
    chosen true h = h
    chosen false h = tt

-- a digit behind which a value is too great, or a byte that is no digit
pub number_too_great : (digits : List ℕ) (i value most : ℕ) → i < length digits
    → (is_ascii_digit (slice_index_or digits i 0) ≡ true → most ≤ value * 10 + (slice_index_or digits i 0 - 48))
    → IfSome (number_behind value (drop i digits)) (λ n. most ≤ n)
unfolding number_behind
number_too_great digits i value most within great =
    rw (drop_more digits i 0 within) (chosen (is_ascii_digit (slice_index_or digits i 0)) (λ is. raised _ (great is) (number_grows next (drop (i + 1) digits))))
  where
    next : ℕ
    next = value * 10 + (slice_index_or digits i 0 - 48)

    raised : (o : Option ℕ) → most ≤ next → IfSome o (λ n. next ≤ n) → IfSome o (λ n. most ≤ n)
    raised None h least = least
    raised (Some n) h least = omega (arith, h, least)

    chosen : (is : Bool) → (is ≡ true → IfSome (number_behind next (drop (i + 1) digits)) (λ n. most ≤ n))
        → IfSome (if is then number_behind next (drop (i + 1) digits) else None) (λ n. most ≤ n)
    chosen true h = h refl
    chosen false h = tt

-- ---- a number below a bound

-- one that is too great, or none
pub below_great : (bound : ℕ) (o : Option ℕ) → IfSome o (λ n. bound ≤ n) → below bound o ≡ None
below_great bound None great = refl
below_great bound (Some n) great = let off : nat_lt n bound ≡ false = grind (arith, great) in rw off refl

-- one that fits
pub below_fits : (bound n : ℕ) (o : Option ℕ) → o ≡ Some n → n < bound → below bound o ≡ Some n
below_fits bound n o is fits = let on : nat_lt n bound ≡ true = grind arith in rw (is, on) refl
