-- What follows from an export's counts.
use Rattle.std.specs.Prelude.{ℕ, ◌+◌, ◌-◌, ◌^◌, min}
use Rattle.server_lock.specs.declared.counts.ExportCounts.{ExportCounts}

-- how many requests were chosen, in either phase
abbrev pub chosen_by : ExportCounts → ℕ
chosen_by counts = min (counts.by_reservation + counts.by_weight) (2 ^ 64 - 1)
