-- The bounds of tags at a shift and at an arrival: P below 2^63 for each request accepted so far, R and L below 2^62 and
-- 2^30 for each.
use Rattle.std.proofs.Common.{ℕ, ◌+◌, ◌*◌, ◌^◌, ◌<◌, ◌≤◌, ℤ, ◌≤ℤ◌, Option, Some, None, arith}
use Rattle.std.specs.Prelude.{pos, negsuc, ◌-ℤ◌}
use Rattle.std.proofs.lemmas.Int.{ints, clamps}
use Rattle.nbd_base.specs.Range.{InRange, IsOptionInRange}
use Rattle.tag_clock.specs.Tags.{later}
use Rattle.server_core.specs.Kept.{Within, IsOptionWithin}

-- P - (m - t), where m is the least P
pub shift_within : (total t : ℕ) (m p : ℤ) → Within 0 (total * 2 ^ 63) p → Within 0 (total * 2 ^ 63) m → m ≤ℤ p → t < 2 ^ 62 → Within 0 ((total + 1) * 2 ^ 63) (p -ℤ (m -ℤ pos t))
shift_within total t m p hp hm le lt = record {
  not_below = let a = hp.not_below in let b = hm.not_below in omega (arith, ints);
  not_above = let a = hp.not_above in let b = hm.not_above in omega (arith, ints);
}

-- max (last + interval) t
pub next_within : (total interval t : ℕ) (last : Option ℤ) → IsOptionWithin 0 (total * 2 ^ 63) last → interval ≤ 2 ^ 30 → t < 2 ^ 62 → Within 0 ((total + 1) * 2 ^ 63) (later last interval t)
next_within total interval t None h g lt = record { not_below = omega (arith, ints); not_above = omega (arith, ints) }
next_within total interval t (Some last) h g lt = record {
  not_below = let a = h.not_below in omega (arith, ints, clamps);
  not_above = let a = h.not_above in omega (arith, ints, clamps);
}

-- R and L, where k were picked and n accepted
pub own_within : (k n interval t : ℕ) (last : Option ℤ) → IsOptionWithin (k * 2 ^ 30) (2 ^ 62 + n * 2 ^ 30) last → interval ≤ 2 ^ 30 → t < 2 ^ 62 → Within (k * 2 ^ 30) (2 ^ 62 + (n + 1) * 2 ^ 30) (later last interval t)
own_within k n interval t None h g lt = record { not_below = omega (arith, ints); not_above = omega (arith, ints) }
own_within k n interval t (Some last) h g lt = record {
  not_below = let a = h.not_below in omega (arith, ints, clamps);
  not_above = let a = h.not_above in omega (arith, ints, clamps);
}

-- tags within the bounds are in range
pub in_range : (low high : ℕ) (tag : ℤ) → low ≤ 2 ^ 125 + 2 ^ 63 → high ≤ 2 ^ 125 + 2 ^ 63 → Within low high tag → InRange tag
in_range low high (pos n) a b h = record { in_range = let up = h.not_above in omega (arith, ints) }
in_range low high (negsuc n) a b h = record { in_range = let down = h.not_below in omega (arith, ints) }

pub option_in_range : (low high : ℕ) (tag : Option ℤ) → low ≤ 2 ^ 125 + 2 ^ 63 → high ≤ 2 ^ 125 + 2 ^ 63 → IsOptionWithin low high tag → IsOptionInRange tag
option_in_range low high None a b h = tt
option_in_range low high (Some tag) a b h = in_range low high tag a b h
