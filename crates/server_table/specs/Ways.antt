-- What an arrival does to the parts.
use Rattle.std.specs.Prelude.{ℕ, ◌+◌, ◌-ℤ◌, ◌==◌, ℤ, Option, Some, None, List, [], ◌∷◌, ◌++◌, map, length, option_map, if◌then◌else◌}
use Rattle.nbd_base.specs.Least.{least}
use Rattle.nbd_wire.specs.Grammar.{RequestMessage}
use Rattle.tag_clock.specs.declared.Tags.{Tags}
use Rattle.tag_clock.specs.Tags.{later, shifted}
use Rattle.tag_clock.specs.Clocks.{lowered}
use Rattle.eligibility.specs.Choice.{candidates}
use Rattle.server_table.specs.Parts.{Entry, Part}
use Rattle.server_table.specs.Order.{heads}

abbrev pub entry_shifted : ℤ → Entry → Entry
entry_shifted delta entry = record entry { tags = shifted delta entry.tags }

-- an idle export keeps its last P
abbrev pub part_shifted : ℤ → Part → Part
part_shifted delta part = record part { waiting = map (entry_shifted delta) part.waiting; last_p = if length part.waiting == 0 then part.last_p else lowered delta part.last_p }

-- the least P tag of the first requests, with its export
abbrev pub least_first_p : List Part → Option (ℤ × ℕ)
least_first_p parts = least (candidates (λ tags. Some tags.p) 0 (heads parts))

abbrev pub parts_for : Option (ℤ × ℕ) → ℤ → List Part → List Part
parts_for None t parts = parts
parts_for (Some first) t parts = map (part_shifted (first.0 -ℤ t)) parts

-- the parts before an arrival at t to an export of which so many wait
abbrev pub way_for : ℕ → ℤ → List Part → List Part
way_for waiting t parts = if waiting == 0 then parts_for (least_first_p parts) t parts else parts

-- the tags of an arrival at t
abbrev pub part_tags : Part → ℕ → Tags
part_tags part t = record { r = option_map (λ interval. later part.last_r interval t) part.rates.r_interval; l = later part.last_l part.rates.l_interval t; p = later part.last_p part.rates.p_interval t }

abbrev pub accepted_part : ℕ → RequestMessage → Tags → Part → Part
accepted_part s q tags part = record part {
  waiting = part.waiting ++ record { number = part.next; session = s; request = q; tags = tags } ∷ [];
  next = part.next + 1;
  last_r = tags.r;
  last_l = Some tags.l;
  last_p = Some tags.p;
  count = part.count + 1;
}
