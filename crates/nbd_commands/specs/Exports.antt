-- What is configured: exports, and how many requests are in service at once.
use Rattle.std.specs.Prelude.{ℕ, ◌<◌, ◌≤◌, Bool, false, if◌then◌else◌, List, length, Option, None}
use Rattle.std.specs.Option.{option_map_or}
use Rattle.tag_clock.specs.Intervals.{AreRates}

-- an export. Rates are in requests a second, 0 for none
pub record Export : Type 0 where
  pub name : List ℕ
  pub description : Option (List ℕ)
  pub size : ℕ
  pub read_only : Bool
  pub reservation : ℕ
  pub limit : ℕ
  pub weight : ℕ
  pub depth : ℕ
  pub window : ℕ

-- an export of which only the name and the size are given
abbrev pub plain_export : List ℕ → ℕ → Export
plain_export name size = record { name = name; description = None; size = size; read_only = false; reservation = 0; limit = 0; weight = 1; depth = 1024; window = 256 }

-- a length, size, weight, depth or the like: at least 1, and not above the most
pub record IsWithin (most n : ℕ) : Type 0 where
  pub least : 1 ≤ n
  pub greatest : n ≤ most

-- every value is in its range
pub record IsExport (e : Export) : Type 0 where
  pub name : IsWithin 255 (length e.name)
  pub description : option_map_or length e.description 0 ≤ 4096
  pub size : IsWithin 1099511627776 e.size
  pub rates : AreRates e.reservation e.limit e.weight
  pub depth : IsWithin 4096 e.depth
  pub window : IsWithin 4096 e.window
  pub reserved : 0 < e.limit → e.reservation ≤ e.limit

-- the transmission flags of an export
abbrev pub flags_of : Export → ℕ
flags_of e = if e.read_only then 0x050f else 0x056d

-- what a server offers, in order, and how many of its requests may be out at once
pub record Offer : Type 0 where
  pub exports : List Export
  pub inflight : ℕ

-- 1 to 64 exports, and as many requests at once as is allowed
pub record IsOffer (o : Offer) : Type 0 where
  pub exports : IsWithin 64 (length o.exports)
  pub inflight : IsWithin 4096 o.inflight
