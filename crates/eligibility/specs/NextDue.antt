-- When something is chosen next.
use Rattle.std.specs.Prelude.{◌≡◌, ℕ, ℤ, int_le, int_lt, true, is_some, Option, Some, None, List, [], ◌∷◌, if◌then◌else◌}
use Rattle.tag_clock.specs.declared.Tags.{Tags}
use Rattle.eligibility.specs.Choice.{choice}
use Rattle.eligibility.specs.Indexed.{slot_r, slot_l}

-- something is chosen at this moment, and nothing from now on before it
pub record IsNextDue (now : ℤ) (slots : List (Option Tags)) (due : ℤ) : Type 0 where
  pub from_now : int_le now due ≡ true
  pub chooses : is_some (choice due slots) ≡ true
  pub none_before : (t : ℤ) → int_le now t ≡ true → int_lt t due ≡ true → choice t slots ≡ None

-- nothing is chosen from now on
abbrev pub IsNeverDue : ℤ → List (Option Tags) → Type 0
IsNeverDue now slots = (t : ℤ) → int_le now t ≡ true → choice t slots ≡ None

-- the lesser of two tags, where they are there
abbrev pub lesser : Option ℤ → Option ℤ → Option ℤ
lesser None b = b
lesser (Some a) None = Some a
lesser (Some a) (Some b) = if int_le a b then Some a else Some b

-- the least of all R and L tags
abbrev pub least_tag : List (Option Tags) → Option ℤ
least_tag [] = None
least_tag (slot ∷ slots) = lesser (lesser (slot_r slot) (slot_l slot)) (least_tag slots)

-- a tag, or now where that is later
abbrev pub not_before : ℤ → Option ℤ → Option ℤ
not_before now None = None
not_before now (Some tag) = if int_le tag now then Some now else Some tag

-- the key of a heap's least
abbrev pub key_alone : Option (ℕ × ℤ) → Option ℤ
key_alone None = None
key_alone (Some least) = Some least.1
