-- What is true of the parts of a server at all times.
use Rattle.std.specs.Prelude.{◌≡◌, ℕ, ◌+◌, ◌-◌, ◌*◌, ◌^◌, ◌<◌, ◌≤◌, ℤ, pos, neg_ℤ, ◌≤ℤ◌, Option, Some, None, List, [], ◌∷◌, ◌++◌, length, ⊤}
use Rattle.std.specs.List.{All, sum_by}
use Rattle.nbd_base.specs.Range.{IsOptionInRange}
use Rattle.tag_clock.specs.Intervals.{Intervals}
use Rattle.tag_clock.specs.declared.Tags.{Tags}
use Rattle.tag_clock.specs.Tags.{AreInRange}
use Rattle.server_table.specs.Parts.{Entry, Part}
use Rattle.server_table.specs.Order.{TagBefore, IsRising, IsNumbered, AllParts, heads}

-- a tag between -low and high
pub record Within (low high : ℕ) (tag : ℤ) : Type 0 where
  pub not_below : neg_ℤ (pos low) ≤ℤ tag
  pub not_above : tag ≤ℤ pos high

abbrev pub IsOptionWithin : ℕ → ℕ → Option ℤ → Type 0
IsOptionWithin low high None = ⊤
IsOptionWithin low high (Some tag) = Within low high tag

-- R and L by the export's own requests, P by those of all exports: of its requests so many were accepted and so many
-- picked, and of all exports' so many accepted in all
pub record TagsWithin (total accepted picked : ℕ) (tags : Tags) : Type 0 where
  pub r : IsOptionWithin (picked * 2 ^ 30) (2 ^ 62 + accepted * 2 ^ 30) tags.r
  pub l : Within 0 (2 ^ 62 + accepted * 2 ^ 30) tags.l
  pub p : Within 0 (total * 2 ^ 63) tags.p

-- no tag is above the last one
pub record BelowLast (part : Part) (entry : Entry) : Type 0 where
  pub r : TagBefore entry.tags.r part.last_r
  pub l : TagBefore (Some entry.tags.l) part.last_l
  pub p : TagBefore (Some entry.tags.p) part.last_p

abbrev pub AllEntries : (Entry → Type 0) → List Entry → Type 0
AllEntries P [] = ⊤
AllEntries P (entry ∷ entries) = P entry × AllEntries P entries

-- about a second at most
abbrev pub IsShort : ℕ → Type 0
IsShort interval = interval ≤ 2 ^ 30

abbrev pub IsOptionShort : Option ℕ → Type 0
IsOptionShort None = ⊤
IsOptionShort (Some interval) = IsShort interval

-- an R tag is there exactly where the export has a reservation
abbrev pub SameKind : Option ℕ → Option ℤ → Type 0
SameKind None None = ⊤
SameKind None (Some tag) = ⊥
SameKind (Some interval) None = ⊥
SameKind (Some interval) (Some tag) = ⊤

-- no last R without a reservation
abbrev pub LastKind : Option ℕ → Option ℤ → Type 0
LastKind None (Some tag) = ⊥
LastKind None None = ⊤
LastKind (Some interval) last = ⊤

pub record AreShort (rates : Intervals) : Type 0 where
  pub reservation : IsOptionShort rates.r_interval
  pub limit : IsShort rates.l_interval
  pub weight : IsShort rates.p_interval

-- how many requests were picked
abbrev pub picked : Part → ℕ
picked part = part.next - length part.waiting

-- numbers and tags rise, and tags keep to their bounds
pub record IsPart (total : ℕ) (part : Part) : Type 0 where
  pub rates : AreShort part.rates
  pub accepted : part.next ≤ 2 ^ 56
  pub counted : part.next ≤ part.count
  pub waiting : length part.waiting ≤ part.next
  pub rising : IsRising part.waiting
  pub numbered : IsNumbered (part.out ++ part.waiting)
  pub numbers : AllEntries (λ entry. entry.number < part.next) (part.out ++ part.waiting)
  pub below : AllEntries (BelowLast part) part.waiting
  pub kinds : AllEntries (λ entry. SameKind part.rates.r_interval entry.tags.r) part.waiting
  pub last_kind : LastKind part.rates.r_interval part.last_r
  pub tags : AllEntries (λ entry. TagsWithin total part.next (picked part) entry.tags) part.waiting
  pub sent : AllEntries (λ entry. TagsWithin total part.next (picked part) entry.tags) part.out
  pub last_r : IsOptionWithin (picked part * 2 ^ 30) (2 ^ 62 + part.next * 2 ^ 30) part.last_r
  pub last_l : IsOptionWithin 0 (2 ^ 62 + part.next * 2 ^ 30) part.last_l
  pub last_p : IsOptionWithin 0 (total * 2 ^ 63) part.last_p

-- the accepted requests of all exports, and those that are out
abbrev pub total : List Part → ℕ
total parts = sum_by (λ part. part.next) parts

abbrev pub outs : List Part → ℕ
outs parts = sum_by (λ part. length part.out) parts

-- what an eligibility holds are the tags of the first waiting request of each active export; no more are out than may be
pub record IsServer (parts : List Part) (slots : List (Option Tags)) (asked now inflight served : ℕ) : Type 0 where
  pub few : length parts ≤ 64
  pub firsts : slots ≡ heads parts
  pub not_later : asked ≤ now
  pub counted : served ≡ outs parts
  pub within : served ≤ inflight
  pub each : AllParts (IsPart (total parts)) parts

-- the tags that are computed with are in range
abbrev pub EntriesInRange : List Entry → Type 0
EntriesInRange entries = All (λ entry. AreInRange entry.tags) entries

pub record TagsInRange (part : Part) : Type 0 where
  pub waiting : EntriesInRange part.waiting
  pub last_r : IsOptionInRange part.last_r
  pub last_l : IsOptionInRange part.last_l
  pub last_p : IsOptionInRange part.last_p
