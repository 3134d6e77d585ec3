-- The order of an export's requests and tags, and what a choice compares.
use Rattle.std.specs.Prelude.{ℕ, ◌<◌, ℤ, pos, ◌≤ℤ◌, Option, Some, None, List, [], ◌∷◌, map, if◌then◌else◌, ⊤}
use Rattle.nbd_base.specs.Least.{least, keyed}
use Rattle.tag_clock.specs.declared.Tags.{Tags}
use Rattle.tag_clock.specs.declared.Phase.{Phase}
use Rattle.eligibility.specs.Choice.{due_r, due_p, by_phase}
use Rattle.server_table.specs.Table.{Row}
use Rattle.server_table.specs.Parts.{Entry, Part}

-- a tag of an earlier request isn't above that of a later one, and both are there or neither
abbrev pub TagBefore : Option ℤ → Option ℤ → Type 0
TagBefore None None = ⊤
TagBefore None (Some b) = ⊥
TagBefore (Some a) None = ⊥
TagBefore (Some a) (Some b) = a ≤ℤ b

pub record Before (a b : Tags) : Type 0 where
  pub r : TagBefore a.r b.r
  pub l : a.l ≤ℤ b.l
  pub p : a.p ≤ℤ b.p

abbrev pub BeforeAll : Tags → List Entry → Type 0
BeforeAll tags [] = ⊤
BeforeAll tags (entry ∷ entries) = Before tags entry.tags × BeforeAll tags entries

-- tags don't fall from a request to the next
abbrev pub IsRising : List Entry → Type 0
IsRising [] = ⊤
IsRising (entry ∷ entries) = BeforeAll entry.tags entries × IsRising entries

abbrev pub AllAbove : ℕ → List Entry → Type 0
AllAbove n [] = ⊤
AllAbove n (entry ∷ entries) = (n < entry.number) × AllAbove n entries

-- numbers rise
abbrev pub IsNumbered : List Entry → Type 0
IsNumbered [] = ⊤
IsNumbered (entry ∷ entries) = AllAbove entry.number entries × IsNumbered entries

abbrev pub AllParts : (Part → Type 0) → List Part → Type 0
AllParts P [] = ⊤
AllParts P (part ∷ parts) = P part × AllParts P parts

-- the tags of the first request that waits, in each export: what an eligibility holds
abbrev pub head_tags : List Entry → Option Tags
head_tags [] = None
head_tags (entry ∷ entries) = Some entry.tags

abbrev pub heads : List Part → List (Option Tags)
heads parts = map (λ part. head_tags part.waiting) parts

-- ---- rows as candidates of a choice
abbrev pub tags_of : Row → Tags
tags_of row = record { r = row.r; l = row.l; p = row.p }

abbrev pub row_key : (Tags → Option ℤ) → Row → Option (ℤ × Row)
row_key key row = if row.out then None else keyed (key (tags_of row)) row

abbrev pub least_row : (Tags → Option ℤ) → List Row → Option (ℤ × Row)
least_row key rows = least (map (row_key key) rows)

abbrev pub chosen_row : ℕ → List Row → Option (Row × Phase)
chosen_row now rows = by_phase (least_row (due_r (pos now)) rows) (least_row (due_p (pos now)) rows)
