-- Numbers below a bound that is lowered.
use Rattle.std.proofs.Common.{◌≡◌, ℕ, ◌<◌, ◌≤◌, nat_lt, Bool, true, false, Option, Some, None, refl, arith}
use Rattle.std.specs.Prelude.{if◌then◌else◌}
use Rattle.nbd_text.specs.Numbers.{below}

-- a lower bound
pub lower_fits : (small great n : ℕ) (o : Option ℕ) → small ≤ great → below great o ≡ Some n → n < small → below small o ≡ Some n
lower_fits small great n None less is fits = is
lower_fits small great n (Some m) less is fits = chosen (nat_lt m great) is
  where
    chosen : (on : Bool) → (if on then Some m else None) ≡ Some n → below small (Some m) ≡ Some n
    chosen true same = let is_n : m ≡ n = cc in let on : nat_lt m small ≡ true = grind arith in rw on same
    chosen false none = cc

pub lower_great : (small great n : ℕ) (o : Option ℕ) → below great o ≡ Some n → small ≤ n → below small o ≡ None
lower_great small great n None is above = refl
lower_great small great n (Some m) is above = chosen (nat_lt m great) is
  where
    chosen : (on : Bool) → (if on then Some m else None) ≡ Some n → below small (Some m) ≡ None
    chosen true same = let is_n : m ≡ n = cc in let off : nat_lt m small ≡ false = grind arith in rw off refl
    chosen false none = cc

pub lower_none : (small great : ℕ) (o : Option ℕ) → small ≤ great → below great o ≡ None → below small o ≡ None
lower_none small great None less is = refl
lower_none small great (Some m) less is = chosen (nat_lt m great) refl is
  where
    chosen : (on : Bool) → nat_lt m great ≡ on → (if on then Some m else None) ≡ None → below small (Some m) ≡ None
    chosen true on some = cc
    chosen false off none = let low : nat_lt m small ≡ false = grind arith in rw low refl
