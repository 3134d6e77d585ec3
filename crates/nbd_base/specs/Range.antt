-- The range that tags, keys and what is added to them keep to.
use Rattle.std.specs.Prelude.{◌<◌, ◌^◌, ℤ, unsigned_abs, Option, Some, None}

-- between -2^126 and 2^126, so that a sum of two fits 128 bits
pub record InRange (tag : ℤ) : Type 0 where
  pub in_range : unsigned_abs tag < 2 ^ 126

abbrev pub IsOptionInRange : Option ℤ → Type 0
IsOptionInRange None = Unit {0}
IsOptionInRange (Some tag) = InRange tag
