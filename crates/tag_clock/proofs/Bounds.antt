-- How long the intervals of rates are.
use Rattle.std.proofs.Common.{◌≡◌, ℕ, zero, suc, ◌+◌, ◌-◌, ◌*◌, ◌/◌, ◌<◌, ◌≤◌, Bool, true, false, Some, None, arith, refl}
use Rattle.std.specs.Prelude.{IfSome, if◌then◌else◌}
use Rattle.std.proofs.Math.Nat.{div-le_self, div-le_of_le-mul}
use Rattle.std.proofs.lemmas.Nat.{le-div}
use Rattle.std.proofs.lemmas.Bool.{eqb-false}
use lib.Dec.{eqb}
use Rattle.tag_clock.specs.Intervals.{second, r_interval_of, l_interval_of, intervals_of, AreIntervals, IsInterval}

-- of a rate that isn't 0, rounded down
rounded_down : (rate : ℕ) → 1 ≤ rate → rate ≤ 1000000 → IsInterval (second / rate)
rounded_down rate low high = record {
  least = le-div 1000 second rate (omega arith) (omega arith);
  most = div-le_self second rate;
}

-- and rounded up
rounded_up : (rate : ℕ) → 1 ≤ rate → rate ≤ 1000000 → IsInterval ((second + (rate - 1)) / rate)
rounded_up rate low high = record {
  least = le-div 1000 (second + (rate - 1)) rate (omega arith) (omega arith);
  most = div-le_of_le-mul rate (fits rate low);
}
  where
    fits : (rate : ℕ) → 1 ≤ rate → second + (rate - 1) ≤ rate * second
    fits zero low = omega arith
    fits (suc rate) low = omega arith

not_zero : (rate : ℕ) → eqb rate 0 ≡ false → 1 ≤ rate
not_zero rate e = omega (arith, eqb-false rate 0 e)

r_bounds : (rate : ℕ) → rate ≤ 1000000 → IfSome (r_interval_of rate) IsInterval
r_bounds rate high = go (eqb rate 0) refl
  where
    go : (b : Bool) → eqb rate 0 ≡ b → IfSome (if b then None else Some (second / rate)) IsInterval
    go true e = tt
    go false e = rounded_down rate (not_zero rate e) high

l_bounds : (rate : ℕ) → rate ≤ 1000000 → 0 < l_interval_of rate → IsInterval (l_interval_of rate)
l_bounds rate high = go (eqb rate 0) refl
  where
    go : (b : Bool) → eqb rate 0 ≡ b → 0 < (if b then 0 else (second + (rate - 1)) / rate) → IsInterval (if b then 0 else (second + (rate - 1)) / rate)
    go true e there = absurd (omega arith)
    go false e there = rounded_up rate (not_zero rate e) high

pub intervals_bounded : (r l w : ℕ) → r ≤ 1000000 → l ≤ 1000000 → 1 ≤ w → w ≤ 1000000 → AreIntervals (intervals_of r l w)
intervals_bounded r l w r_high l_high w_low w_high = record {
  reservation = r_bounds r r_high;
  limit = l_bounds l l_high;
  weight = rounded_down w w_low w_high;
}
