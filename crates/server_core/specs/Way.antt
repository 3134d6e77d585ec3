-- How the exports make way for an arrival to an idle one (mClock, tag adjustment).
use Rattle.std.specs.Prelude.{ℕ, ℤ, ◌-ℤ◌, ◌==◌, Option, Some, None, List, map, if◌then◌else◌}
use Rattle.nbd_base.specs.Range.{InRange}
use Rattle.server_table.specs.Ways.{least_first_p}
use Rattle.server_core.specs.Members.{Standing, shifted_standing}
use Rattle.server_core.specs.Served.{parts}

abbrev pub lowered_to : Option (ℤ × ℕ) → ℤ → List Standing → List Standing
lowered_to None t members = members
lowered_to (Some first) t members = map (shifted_standing (first.0 -ℤ t)) members

-- the least P tag that waits becomes t, where nothing waits in the export that the request comes to
abbrev pub way_of : ℕ → ℤ → List Standing → List Standing
way_of waiting t members = if waiting == 0 then lowered_to (least_first_p (parts members)) t members else members

-- what the P tags fall by is in range
abbrev pub IsFallInRange : Option (ℤ × ℕ) → ℤ → Type 0
IsFallInRange None t = Unit {0}
IsFallInRange (Some first) t = InRange (first.0 -ℤ t)
