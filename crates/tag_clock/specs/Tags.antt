-- Tags of requests, and the rule that gives them.
use Rattle.std.specs.Prelude.{ℕ, ℤ, pos, ◌+ℤ◌, ◌-ℤ◌, Option}
use Rattle.std.specs.Int.{int_max}
use Rattle.nbd_base.specs.Words.{when_some}
use Rattle.nbd_base.specs.Range.{InRange, IsOptionInRange}
use Rattle.tag_clock.specs.declared.Tags.{Tags}

-- the tag of an arrival at t: an interval after the last one, but not below t; without a last one, t
abbrev pub later : Option ℤ → ℕ → ℕ → ℤ
later last interval t = when_some last (λ tag. int_max (tag +ℤ pos interval) (pos t)) (pos t)

-- each of a request's tags is in range
abbrev pub AreInRange : Tags → Type 0
AreInRange tags = IsOptionInRange tags.r × InRange tags.l × InRange tags.p

-- the P tag less delta
abbrev pub shifted : ℤ → Tags → Tags
shifted delta tags = record tags { p = tags.p -ℤ delta }
