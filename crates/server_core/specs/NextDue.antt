-- When a dispatch chooses next.
use Rattle.std.specs.Prelude.{◌≡◌, ℕ, ◌<◌, ◌^◌, max, ℤ, pos, int_le, int_lt, unsigned_abs, true, is_some, Option, Some, None, if◌then◌else◌}
use Rattle.server_table.specs.Table.{Choice, choice}
use Rattle.server_core.specs.Served.{Served}

-- what a dispatch at this moment chooses
abbrev pub chosen_at : ℕ → Served → Option Choice
chosen_at t served = choice served.setup.inflight (record served.table { now = max served.table.now t })

-- a dispatch at this moment chooses a request, and one at an earlier moment none
pub record IsNextDue (served : Served) (due : ℕ) : Type 0 where
  pub chooses : is_some (chosen_at due served) ≡ true
  pub none_before : (t : ℕ) → t < due → chosen_at t served ≡ None

-- no dispatch chooses a request, whatever its moment
abbrev pub IsNeverDue : Served → Type 0
IsNeverDue served = (t : ℕ) → t < 2 ^ 62 → chosen_at t served ≡ None

-- the moment of a tag that something is due at: the first one where it is due by now, and none from 2^62 nanoseconds on
abbrev pub moment_at : ℕ → Option ℤ → Option ℕ
moment_at now None = None
moment_at now (Some due) = if int_le due (pos now) then Some 0 else (if int_lt due (pos (2 ^ 62)) then Some (unsigned_abs due) else None)
