-- A number that is written in nine digits.
use Rattle.std.proofs.Common.{◌≡◌, ℕ, ◌-◌, ◌^◌, false, [], ◌++◌, length, refl, arith, append-nil}
use Rattle.std.specs.Fmt.{decimal, padded_integral, format_spec, char_count}
use Rattle.nbd_control.specs.Figures.{nine_digits}

-- what `{:09}` writes
pub padded_nine : (n : ℕ) → padded_integral (format_spec 32 0 4 9 (2 ^ 64 - 1)) false [] (decimal n) ≡ nine_digits n
unfolding padded_integral char_count nine_digits
padded_nine n =
    let zero : 9 - length (decimal n) - 0 - 0 ≡ 9 - length (decimal n) = omega arith in
    first_of (rw (zero, append-nil (decimal n)), rw (append-nil (decimal n), zero), simp (zero, append-nil), rw append-nil, grind (arith, append-nil))
