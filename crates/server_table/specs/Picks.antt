-- What a choice does to the part of its export.
use Rattle.std.specs.Prelude.{ℕ, ◌+◌, pos, Option, Some, None, List, [], ◌∷◌, ◌++◌, map, drop}
use Rattle.tag_clock.specs.declared.Phase.{Phase}
use Rattle.tag_clock.specs.declared.Phase.TheVariants.{Reservation, Weight}
use Rattle.tag_clock.specs.Clocks.{lowered}
use Rattle.server_table.specs.Parts.{Entry, Part}

abbrev pub entry_credited : ℕ → Entry → Entry
entry_credited by entry = record entry { tags = record { r = lowered (pos by) entry.tags.r; l = entry.tags.l; p = entry.tags.p } }

-- the interval is subtracted from R, where the export has a reservation
abbrev pub part_credited : Option ℕ → Part → Part
part_credited None part = part
part_credited (Some by) part = record part { waiting = map (entry_credited by) part.waiting; last_r = lowered (pos by) part.last_r }

abbrev pub front : List Entry → List Entry
front [] = []
front (entry ∷ entries) = entry ∷ []

-- the first request that waits is out
abbrev pub part_sent : Part → Part
part_sent part = record part { waiting = drop 1 part.waiting; out = part.out ++ front part.waiting; count = part.count + 1 }

-- credit follows a choice by weight
abbrev pub part_picked : Phase → Part → Part
part_picked Reservation part = part_sent part
part_picked Weight part = part_credited part.rates.r_interval (part_sent part)
