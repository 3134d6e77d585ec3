-- One export: what it may have, and what follows from what it had. Moments are nanoseconds.
use Rattle.std.specs.Prelude.{ℕ, ◌+◌, ◌-◌, ◌*◌, ◌/◌, ◌%◌, ◌^◌, ◌==◌, ◌&&◌, ◌||◌, false, min, max, Bool, nat_lt, nat_le, if◌then◌else◌}
use Rattle.turn_order.specs.declared.Rates.{Rates}
use Rattle.turn_order.specs.declared.flow.Flow.{Flow}

-- a time that goes on by an interval for each unit, up to the last one that there is
abbrev pub later_by : ℕ → ℕ → ℕ → ℕ
later_by time cost interval = min (time + cost * interval) (2 ^ 128 - 1)

-- a count and one, up to the greatest
abbrev pub one_more : ℕ → ℕ
one_more count = if nat_lt count (2 ^ 32 - 1) then count + 1 else count

-- between two units at so many a second; 0 for the rate 0
abbrev pub interval_of : ℕ → ℕ
interval_of rate = if rate == 0 then 0 else 10 ^ 9 / rate

-- the units of a request with so many bytes of data: one for each 16 KiB begun, and one at least
abbrev pub units_of : ℕ → ℕ
units_of length = max (if length % 16384 == 0 then length / 16384 else length / 16384 + 1) 1

-- the virtual time of one unit
abbrev pub step_of : ℕ → ℕ
step_of weight = 2 ^ 60 / max weight 1

-- an export that had nothing so far
abbrev pub flow_of : Rates → Flow
flow_of rates =
    record {
      step = step_of rates.weight;
      reservation_interval = interval_of rates.reservation;
      virtual_time = 0;
      reserved_at = 0;
      limited_until = 0;
      seen = 0;
      sessions = 0;
      waiting = 0;
      lingers_until = 0;
      stopped = false;
    }

-- at other rates: its reservation begins anew, it isn't past its limit, and it is ahead of the clock by 8,192 of its units at most
abbrev pub tuned : Rates → ℕ → Flow → Flow
tuned rates clock f =
    record f {
      step = step_of rates.weight;
      reservation_interval = interval_of rates.reservation;
      virtual_time = min f.virtual_time (clock + 8192 * step_of rates.weight);
      reserved_at = 0;
      limited_until = 0;
    }

-- others wait for it: it has something at hand or lingers, isn't past its limit, and was seen within 5 ms
abbrev pub contends_at : ℕ → Flow → Bool
contends_at now f = (nat_lt 0 f.sessions || nat_lt now f.lingers_until) && nat_le f.limited_until now && nat_le (now - f.seen) 5000000

-- its reservation is due
abbrev pub due_at : ℕ → Flow → Bool
due_at now f = nat_lt 0 f.reservation_interval && nat_le f.reserved_at now

-- its reservation was due 1 ms ago
abbrev pub late_at : ℕ → Flow → Bool
late_at now f = nat_lt 0 f.reservation_interval && nat_le f.reserved_at (now - 1000000)

-- how long it waits: until its reservation is due, and 1 ms at most
abbrev pub wait_of : ℕ → Flow → ℕ
wait_of now f = if nat_lt 0 f.reservation_interval && nat_lt now f.reserved_at then min (f.reserved_at - now) 1000000 else 1000000

-- a turn by reservation takes its time on from 5 ms ago at the earliest; one by weight leaves it
abbrev pub reserved_after : ℕ → ℕ → Flow → ℕ
reserved_after now cost f =
    if due_at now f then later_by (max f.reserved_at (now - 5000000)) cost f.reservation_interval else f.reserved_at
