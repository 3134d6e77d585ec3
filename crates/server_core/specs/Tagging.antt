-- The tags of an export's requests, as they are kept beside its requests.
use Rattle.std.specs.Prelude.{ℕ, pos, Option, Some, None, List, map}
use Rattle.std.specs.List.{All}
use Rattle.tag_clock.specs.declared.Tags.{Tags}
use Rattle.tag_clock.specs.Tags.{AreInRange}
use Rattle.tag_clock.specs.declared.Phase.{Phase}
use Rattle.tag_clock.specs.declared.Phase.TheVariants.{Reservation, Weight}
use Rattle.tag_clock.specs.Clocks.{Share, lowered}

-- the R tag less an interval
abbrev pub tags_credited : ℕ → Tags → Tags
tags_credited by tags = record { r = lowered (pos by) tags.r; l = tags.l; p = tags.p }

abbrev pub AllTagsInRange : List Tags → Type 0
AllTagsInRange tags = All AreInRange tags

-- what stands where a list has no element
abbrev pub no_tags : Tags
no_tags = record { r = None; l = pos 0; p = pos 0 }

-- ---- credit: the interval of the reservation, after a choice by weight
abbrev pub credit_due : Phase → Option ℕ → Option ℕ
credit_due Reservation interval = None
credit_due Weight interval = interval

abbrev pub waiting_credited : Option ℕ → List Tags → List Tags
waiting_credited None tags = tags
waiting_credited (Some by) tags = map (tags_credited by) tags

abbrev pub share_credited_by : Option ℕ → Share → Share
share_credited_by None share = share
share_credited_by (Some by) share = record share { last_r = lowered (pos by) share.last_r }
