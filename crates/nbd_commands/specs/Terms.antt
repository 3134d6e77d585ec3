-- The terms of an export: all that its requests are served by.
use Rattle.std.specs.Prelude.{ℕ, Bool}
use Rattle.tag_clock.specs.Intervals.{Intervals, intervals_of}
use Rattle.nbd_commands.specs.Exports.{Export}

-- the rates are those at the start, as intervals in nanoseconds. No reservation: no interval of reservation; no limit: interval 0
pub record Terms : Type 0 where
  pub size : ℕ
  pub read_only : Bool
  pub depth : ℕ
  pub window : ℕ
  pub rates : Intervals

abbrev pub terms_of : Export → Terms
terms_of e = record { size = e.size; read_only = e.read_only; depth = e.depth; window = e.window; rates = intervals_of e.reservation e.limit e.weight }
