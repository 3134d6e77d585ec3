-- The intervals of rates, in nanoseconds: mClock's 1/r, 1/l and 1/w.
use Rattle.std.specs.Prelude.{ℕ, ◌+◌, ◌-◌, ◌/◌, ◌^◌, ◌<◌, ◌≤◌, ◌==◌, if◌then◌else◌, Option, Some, None, IfSome}

-- the nanoseconds of a second
abbrev pub second : ℕ
second = 10 ^ 9

-- of a reservation, rounded down; none for the rate 0, which reserves nothing
abbrev pub r_interval_of : ℕ → Option ℕ
r_interval_of rate = if rate == 0 then None else Some (second / rate)

-- of a limit, rounded up; 0 for the rate 0, which is no limit
abbrev pub l_interval_of : ℕ → ℕ
l_interval_of rate = if rate == 0 then 0 else (second + (rate - 1)) / rate

-- of a weight, rounded down
abbrev pub p_interval_of : ℕ → ℕ
p_interval_of weight = second / weight

-- the intervals of an export
pub record Intervals : Type 0 where
  pub r_interval : Option ℕ
  pub l_interval : ℕ
  pub p_interval : ℕ

-- what stands for those of an export that isn't there
abbrev pub no_intervals : Intervals
no_intervals = record { r_interval = None; l_interval = 0; p_interval = 0 }

abbrev pub intervals_of : ℕ → ℕ → ℕ → Intervals
intervals_of reservation limit weight = record { r_interval = r_interval_of reservation; l_interval = l_interval_of limit; p_interval = p_interval_of weight }

-- the rates that an export may have
pub record AreRates (r l w : ℕ) : Type 0 where
  pub reservation : r ≤ 1000000
  pub limit : l ≤ 1000000
  pub weight : 1 ≤ w
  pub weight_few : w ≤ 1000000

-- between the intervals of the greatest rate and of the rate 1
pub record IsInterval (n : ℕ) : Type 0 where
  pub least : 1000 ≤ n
  pub most : n ≤ second

-- the intervals of rates that an export may have
pub record AreIntervals (intervals : Intervals) : Type 0 where
  pub reservation : IfSome intervals.r_interval IsInterval
  pub limit : 0 < intervals.l_interval → IsInterval intervals.l_interval
  pub weight : IsInterval intervals.p_interval
