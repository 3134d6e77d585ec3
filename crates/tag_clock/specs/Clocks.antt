-- The clocks of one export: what gives its requests their tags.
use Rattle.std.specs.Prelude.{ℕ, ℤ, pos, ◌-ℤ◌, Option, Some, None, option_map, unwrap_or}
use Rattle.tag_clock.specs.Tags.{later}

-- the interval of the limit, 0 where there is none, and the last limit tag
pub record Limit : Type 0 where
  pub interval : ℕ
  pub last : Option ℤ

abbrev pub fresh_limit : ℕ → Limit
fresh_limit interval = record { interval = interval; last = None }

-- the tag of an arrival, and the clock after it
abbrev pub limit_tag : Limit → ℕ → ℤ
limit_tag clock t = later clock.last clock.interval t

abbrev pub limit_after : Limit → ℕ → Limit
limit_after clock t = record clock { last = Some (limit_tag clock t) }

-- another interval; the last tag stays
abbrev pub limit_retuned : ℕ → Limit → Limit
limit_retuned interval clock = record clock { interval = interval }

-- the intervals of the reservation, where there is one, and of the weight, and the last tag of each
pub record Share : Type 0 where
  pub r_interval : Option ℕ
  pub p_interval : ℕ
  pub last_r : Option ℤ
  pub last_p : Option ℤ

abbrev pub fresh_share : Option ℕ → ℕ → Share
fresh_share r_interval p_interval = record { r_interval = r_interval; p_interval = p_interval; last_r = None; last_p = None }

-- the R tag of an arrival, where there is a reservation, its P tag, and the clock after it
abbrev pub r_tag : Share → ℕ → Option ℤ
r_tag clock t = option_map (λ interval. later clock.last_r interval t) clock.r_interval

abbrev pub p_tag : Share → ℕ → ℤ
p_tag clock t = later clock.last_p clock.p_interval t

abbrev pub share_after : Share → ℕ → Share
share_after clock t = record clock { last_r = r_tag clock t; last_p = Some (p_tag clock t) }

-- a tag less what is subtracted, where there is one
abbrev pub lowered : ℤ → Option ℤ → Option ℤ
lowered delta last = option_map (λ tag. tag -ℤ delta) last

-- after a choice by weight: the last R less the interval of the reservation
abbrev pub share_credited : Share → Share
share_credited clock = record clock { last_r = lowered (pos (unwrap_or clock.r_interval 0)) clock.last_r }

-- no last R without a reservation
abbrev pub last_r_for : Option ℕ → Option ℤ → Option ℤ
last_r_for None last = None
last_r_for (Some interval) last = last

-- other intervals; the last P stays, and the last R where there is a reservation
abbrev pub share_retuned : Option ℕ → ℕ → Share → Share
share_retuned r_interval p_interval clock = record { r_interval = r_interval; p_interval = p_interval; last_r = last_r_for r_interval clock.last_r; last_p = clock.last_p }

-- the last P less delta
abbrev pub share_shifted : ℤ → Share → Share
share_shifted delta clock = record clock { last_p = lowered delta clock.last_p }
